use Rattle.std.proofs.Common.{◌≡◌, Some, arith, length, refl, rules, true}
use Rattle.std.specs.Prelude.{◌==◌, slice_get}
use Rattle.tao_base.proofs.Tests.{eqb-same}
use Rattle.core_sessions.proofs.AtPlace.{looked_up, lt_from_test, place_there}
use Rattle.core_sessions.proofs.sessions.place_near.Goals as goal

pub returns-in-Some-clause-within : goal.returns-in-Some-clause-within
returns-in-Some-clause-within c =
    let less = lt_from_test c.args.seat (length c.args.passes.now) c.in-Some.ensures.lookup.0 in
    omega (arith, less)

pub returns-in-Some-clause-place : goal.returns-in-Some-clause-place
returns-in-Some-clause-place c =
    let xs = c.args.passes.now in
    let at : slice_get xs c.args.seat ≡ Some c.in-Some.found.now =
    looked_up xs xs c.args.seat c.in-Some.found.now refl c.in-Some.ensures.lookup.0 c.in-Some.ensures.lookup.1 in
    let same : (c.in-Some.found.now.session == c.args.session) ≡ true = search rules in
    place_there c.args.session xs c.args.seat c.in-Some.found.now c.requires at (eqb-same c.in-Some.found.now.session c.args.session same)
