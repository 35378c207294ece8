use Rattle.std.proofs.Common.{◌≡◌, None, Some, false, true, ap, length, refl, sym, rules, ◌∙◌}
use Rattle.std.specs.Prelude.{◌==◌, is_some, nat_lt, slice_get}
use Rattle.core_sessions.proofs.AtPlace.{looked_past, looked_up, open_is, session_is, stands_found}
use Rattle.core_sessions.proofs.InOrder.{none_found}
use Rattle.core_sessions.proofs.sessions.Sessions.start.Goals as goal

pub returns-in-Some : goal.returns-in-Some
returns-in-Some c =
    let items = c.self.inside.passes.items in
    let at : slice_get items c.place_near-place.result ≡ Some c.in-Some.found.now =
    looked_up items c.deref-2.result.now c.place_near-place.result c.in-Some.found.now c.deref-2.ensures.value c.in-Some.ensures.lookup.0
    c.in-Some.ensures.lookup.1 in
    let same : (c.in-Some.found.now.session == c.args.session) ≡ true = search rules in
    let here = stands_found c.args.session items c.place_near-place.result c.in-Some.found.now c.self.invariant at same in
    rw (← c.self.view_is) (rw (session_is c.args.session items c.place_near-place.result c.in-Some.found.now here) (rw (c.opening_of.ensures, c.floor.ensures.value) refl))

pub returns-in_default : goal.returns-in_default
returns-in_default c =
    let items = c.self.inside.passes.items in
    let at : slice_get items c.place_near-place.result ≡ Some c.in-Some.found.now =
    looked_up items c.deref-2.result.now c.place_near-place.result c.in-Some.found.now c.deref-2.ensures.value c.in-Some.ensures.lookup.0
    c.in-Some.ensures.lookup.1 in
    let differs : (c.in-Some.found.now.session == c.args.session) ≡ false = search rules in
    let found = open_is c.args.session items c.deref.result.now c.place_near-place.result (Some c.in-Some.found.now) c.deref.ensures.value c.self.invariant
    c.place_near-place.ensures.place at in
    rw (← c.self.view_is) (rw (none_found c.args.session items (sym found ∙ differs)) refl)

pub returns-in_default-2 : goal.returns-in_default-2
returns-in_default-2 c =
    let items = c.self.inside.passes.items in
    let past : false ≡ nat_lt c.place_near-place.result (length c.deref-2.result.now) = ap is_some (sym c.in_default.is) ∙ c.get.ensures.lookup.0 in
    let found = open_is c.args.session items c.deref.result.now c.place_near-place.result None c.deref.ensures.value c.self.invariant
    c.place_near-place.ensures.place (looked_past items c.deref-2.result.now c.place_near-place.result c.deref-2.ensures.value past) in
    rw (← c.self.view_is) (rw (none_found c.args.session items (sym found)) refl)
