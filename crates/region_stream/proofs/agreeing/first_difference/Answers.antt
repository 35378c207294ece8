use Rattle.std.proofs.Common.{length, arith, ◌≤◌}
use Rattle.region_stream.proofs.AgreeLemmas.{agree_begins}
use Rattle.region_stream.proofs.agreeing.first_difference.Goals as goal

pub returns-clause-found : goal.returns-clause-found
returns-clause-found g c = λ told.
    let count = c.in_ok-count.ensures.answer told in
    let all : length ((g.M.Keeper.state c.args.keeper.now).told c.args.at).log ≤ c.loop-place.place = omega (arith, count, c.loop-place-test.false) in
    agree_begins ((g.M.Keeper.state c.args.keeper.now).told c.args.at).log c.args.master.now c.loop-place.place all (c.loop-place.invariant.agree told)
