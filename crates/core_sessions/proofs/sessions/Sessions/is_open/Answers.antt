use Rattle.std.proofs.Common.{None, Some}
use Rattle.core_sessions.proofs.AtPlace.{looked_past, looked_up, open_is}
use Rattle.core_sessions.proofs.sessions.Sessions.is_open.Goals as goal

pub returns-in-Some : goal.returns-in-Some
returns-in-Some c =
    let items = c.self.inside.passes.items in
    rw (← c.self.view_is) (rw c.session.ensures (open_is c.args.session items c.deref.result.now c.place_of-place.result
    (Some c.in-Some.found.now) c.deref.ensures.value c.self.invariant
    c.place_of-place.ensures.place
    (looked_up items c.deref-2.result.now c.place_of-place.result c.in-Some.found.now c.deref-2.ensures.value c.in-Some.ensures.lookup.0
    c.in-Some.ensures.lookup.1)))

pub returns-in-None : goal.returns-in-None
returns-in-None c =
    let items = c.self.inside.passes.items in
    rw (← c.self.view_is) (open_is c.args.session items c.deref.result.now c.place_of-place.result None c.deref.ensures.value c.self.invariant
    c.place_of-place.ensures.place (looked_past items c.deref-2.result.now c.place_of-place.result c.deref-2.ensures.value c.in-None.ensures.lookup.0))
