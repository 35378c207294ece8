use Rattle.std.proofs.Common.{◌≡◌, ◌+◌, length}
use Rattle.std.specs.List.{AllByRecursion}
use Rattle.std.specs.Vec.{vec_len}
use Rattle.locked_nodes.specs.shared_nodes.Nodes.{IsSharedNode}
use Rattle.cluster_opening.proofs.opening.lock_leaders.Given as goal

-- those that are left may be shared, and are as many as there are still to come
abbrev pub invariant-loop-leader : goal.invariant-loop-leader
invariant-loop-leader g l = record {
  shared : AllByRecursion (λ leader. IsSharedNode g.J.Sharing.making g.J.Logs.log leader.name leader.node) l.leader-iterator.rest.items;
  many : vec_len l.shared + length l.leader-iterator.rest.items ≡ length l.fn.leaders.items;
}
