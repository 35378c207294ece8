use Rattle.std.proofs.Common.{◌≤◌}
use Rattle.shared_tiers.specs.cluster_pumps.Hands.{IsHandOf}
use Rattle.shared_tiers.specs.locked_nodes.Passes.{IsPassOf}
use Rattle.load_shares.specs.Seen.{EachPass}
use Rattle.cluster_hands.specs.Hands.{EachHand}
use Rattle.shared_tiers.specs.locked_nodes.Cluster.{on_cluster}
use Rattle.tao_busy.specs.Refusing.{HaveEachSession, RefusesNoneOf}
use Rattle.tao_busy.proofs.Running.{MissesSoFar}
use Rattle.tao_busy.proofs.shares.run_calls.Given as goal

-- the thread goes on as it began, and of the calls so far no more additions are missed than were refused
abbrev pub invariant-loop-request : goal.invariant-loop-request
invariant-loop-request g l = record {
  passes : EachPass (IsPassOf g.J.Sharing.making g.J.Logs.log) l.worker.passes.items;
  hands : EachHand (IsHandOf g.J.Sharing.making l.cluster) l.worker.hands.items;
  few : l.tally.refused ≤ l.request-index;
  numbers : l.number ≤ l.request-index;
  sessions : HaveEachSession g.J.Sharing.making.settings l.worker.passes.items;
  misses : MissesSoFar g.K.Keeper.TELLS l.turn.threads l.turn.place l.requests l.request-index l.number l.tally.refused l.worker.passes.items;
  none : RefusesNoneOf (on_cluster g.K.Keeper.TELLS g.K.Keeper.state g.J.Sharing.making g.J.Logs.log) l.requests l.tally l.worker.passes.items;
}
