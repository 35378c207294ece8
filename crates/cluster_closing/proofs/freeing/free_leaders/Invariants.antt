use Rattle.std.proofs.Common.{◌+◌, ◌≤◌, length}
use Rattle.std.specs.Vec.{vec_capacity, vec_len}
use Rattle.core_model.specs.Fleet.{EachIs}
use Rattle.shared_nodes.specs.Nodes.{IsSharedNode}
use Rattle.cluster_closing.proofs.freeing.free_leaders.Given as goal

-- those that were taken out are such as their locks kept, and there is room for the others
abbrev pub invariant-loop-leader : goal.invariant-loop-leader
invariant-loop-leader g l = record {
  freed : EachIs (λ name node. IsSharedNode g.J.Sharing.making g.J.Logs.log name node) l.freed.items;
  room : vec_len l.freed + length l.leader-iterator.rest.items ≤ vec_capacity l.freed;
}
