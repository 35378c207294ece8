use Rattle.std.proofs.Common.{ap, arith, length, subst, sym}
use Rattle.core_model.specs.Fleet.{EachIs}
use Rattle.unlocked_nodes.specs.Unlocked.{IsFreedFollower}
use Rattle.cluster_closing.proofs.FreedStores.{each_pushed}
use Rattle.cluster_closing.proofs.freeing.free_followers.Goals as goal

pub loop-follower-preserved : goal.loop-follower-preserved
loop-follower-preserved g c = record {
  freed = subst (λ xs. EachIs (IsFreedFollower g.J.Sharing.making g.J.Logs.log) xs) (sym c.put_last.ensures.items)
      (each_pushed (IsFreedFollower g.J.Sharing.making g.J.Logs.log) c.loop-follower.freed.items c.free_follower.result c.loop-follower.invariant.freed c.free_follower.ensures);
  room = (
      let room = c.loop-follower.invariant.room in
      let len = c.put_last.ensures.len in
      let kept = c.put_last.ensures.room in
      let rest = ap length c.in-Some.ensures.steps.0 in
      omega (arith, room, len, kept, rest));
}
