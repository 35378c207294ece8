use Rattle.std.proofs.Common.{◌≡◌, ◌+◌, length}
use Rattle.std.specs.List.{AllByRecursion}
use Rattle.std.specs.Vec.{vec_len}
use Rattle.locked_nodes.specs.shared_nodes.Nodes.{IsSharedNode}
use Rattle.cluster_opening.proofs.opening.lock_followers.Given as goal

-- those that are left may be shared, and are as many as there are still to come
abbrev pub invariant-loop-follower : goal.invariant-loop-follower
invariant-loop-follower g l = record {
  shared : AllByRecursion (λ follower. IsSharedNode g.J.Sharing.making g.J.Logs.log follower.name follower.node.node) l.follower-iterator.rest.items;
  many : vec_len l.shared + length l.follower-iterator.rest.items ≡ length l.fn.followers.items;
}
