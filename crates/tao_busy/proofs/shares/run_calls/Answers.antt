use Rattle.std.proofs.Common.{arith, rules}
use Rattle.std.proofs.Math.ListN.{drop_of_length-le}
use Rattle.shared_tiers.specs.locked_nodes.Cluster.{on_cluster}
use Rattle.tao_busy.proofs.Running.{misses_last, misses_step, none_next}
use Rattle.tao_busy.proofs.shares.run_calls.Goals as goal

pub loop-request-preserved : goal.loop-request-preserved
loop-request-preserved g c = record {
  passes = c.take_in_turn-came.ensures.passes;
  hands = c.take_in_turn-came.ensures.hands;
  sessions = c.take_in_turn-came.ensures.sessions;
  few = omega (arith, c.add_tally-tally.ensures.refused, c.loop-request.invariant.few, c.take_in_turn-came.ensures.one);
  numbers = omega (arith, c.loop-request.invariant.numbers, c.one_call-number.ensures.most);
  misses = misses_step g.K.Keeper.TELLS c.args.turn.threads c.args.turn.place c.args.requests.now c.loop-request.request-index c.loop-request.number
      c.loop-request.tally.refused c.take_in_turn-came.result.refused c.one_call-number.result c.add_tally-tally.result.refused _ _ _
      (omega (arith, c.loop-request-test.true, c.loop-request.auto.request-index-end)) (search rules) c.one_call-number.ensures.is c.add_tally-tally.ensures.refused
      c.loop-request.invariant.misses c.take_in_turn-came.ensures.on c.take_in_turn-came.ensures.few;
  none = none_next (on_cluster g.K.Keeper.TELLS g.K.Keeper.state g.J.Sharing.making g.J.Logs.log) c.args.requests.now c.loop-request.request-index _
      (omega (arith, c.loop-request-test.true, c.loop-request.auto.request-index-end)) (search rules) c.loop-request.tally c.take_in_turn-came.result
      c.add_tally-tally.result _ _ c.add_tally-tally.ensures.refused c.add_tally-tally.ensures.short c.take_in_turn-came.ensures.on
      c.loop-request.invariant.none c.take_in_turn-came.ensures.none;
}

pub returns-clause-few : goal.returns-clause-few
returns-clause-few g c =
    misses_last g.K.Keeper.TELLS c.args.turn.threads c.args.turn.place c.args.requests.now c.loop-request.request-index c.loop-request.number
    c.loop-request.tally.refused c.loop-request.worker.passes.items
    (drop_of_length-le c.args.requests.now (omega (arith, c.loop-request-test.false, c.loop-request.auto.request-index-end))) c.loop-request.invariant.misses
