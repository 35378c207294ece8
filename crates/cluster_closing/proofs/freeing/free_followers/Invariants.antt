use Rattle.std.proofs.Common.{◌+◌, ◌≤◌, length}
use Rattle.std.specs.Vec.{vec_capacity, vec_len}
use Rattle.core_model.specs.Fleet.{EachIs}
use Rattle.unlocked_nodes.specs.Unlocked.{IsFreedFollower}
use Rattle.cluster_closing.proofs.freeing.free_followers.Given as goal

-- those that were taken out are such as their locks kept, and there is room for the others
abbrev pub invariant-loop-follower : goal.invariant-loop-follower
invariant-loop-follower g l = record {
  freed : EachIs (IsFreedFollower g.J.Sharing.making g.J.Logs.log) l.freed.items;
  room : vec_len l.freed + length l.follower-iterator.rest.items ≤ vec_capacity l.freed;
}
