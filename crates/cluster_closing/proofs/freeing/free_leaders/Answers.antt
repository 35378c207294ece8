use Rattle.std.proofs.Common.{ap, arith, length, subst, sym}
use Rattle.core_model.specs.Fleet.{EachIs}
use Rattle.shared_nodes.specs.Nodes.{IsSharedNode}
use Rattle.cluster_closing.proofs.FreedStores.{each_pushed}
use Rattle.cluster_closing.proofs.freeing.free_leaders.Goals as goal

pub loop-leader-preserved : goal.loop-leader-preserved
loop-leader-preserved g c = record {
  freed = subst (λ xs. EachIs (λ name node. IsSharedNode g.J.Sharing.making g.J.Logs.log name node) xs) (sym c.put_last.ensures.items)
      (each_pushed (λ name node. IsSharedNode g.J.Sharing.making g.J.Logs.log name node) c.loop-leader.freed.items c.free_leader.result c.loop-leader.invariant.freed c.free_leader.ensures);
  room = (
      let room = c.loop-leader.invariant.room in
      let len = c.put_last.ensures.len in
      let kept = c.put_last.ensures.room in
      let rest = ap length c.in-Some.ensures.steps.0 in
      omega (arith, room, len, kept, rest));
}
