use Rattle.std.proofs.Common.{◌≡◌, ap, false}
use Rattle.core_sessions.proofs.InOrder.{added}
use Rattle.core_sessions.specs.Sessions.{is_open, session_of, sessions_of}
use Rattle.core_sessions.proofs.sessions.Sessions.add.Goals as goal

pub invariant_of-self-2 : goal.invariant_of-self-2
invariant_of-self-2 c =
    let items = c.self.inside.passes.items in
    let none : is_open (sessions_of items) c.args.new.session ≡ false = rw c.self.view_is c.requires in
    (added c.args.new c.args.notes.items c.in_ok-pass.pass items c.deref.result.now c.insert.new.passes.items c.place_of-place.result
    (ap session_of c.in_ok-pass.ensures.made) c.deref.ensures.value c.self.invariant none c.place_of-place.ensures.within
    c.place_of-place.ensures.place c.in_ok-insert.ensures.ok).1

pub returns-clause-ok : goal.returns-clause-ok
returns-clause-ok c =
    let items = c.self.inside.passes.items in
    let none : is_open (sessions_of items) c.args.new.session ≡ false = rw c.self.view_is c.requires in
    rw (← c.self.view_is) (added c.args.new c.args.notes.items c.in_ok-pass.pass items c.deref.result.now c.insert.new.passes.items c.place_of-place.result
    (ap session_of c.in_ok-pass.ensures.made) c.deref.ensures.value c.self.invariant none c.place_of-place.ensures.within
    c.place_of-place.ensures.place c.in_ok-insert.ensures.ok).0
