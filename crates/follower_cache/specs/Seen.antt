-- How contracts see a follower.
use Rattle.std.specs.Prelude.{List}
use Rattle.cache_node.specs.cache_items.Node.{Node}
use Rattle.follower_cache.specs.declared.queue.Refill.{Refill}

-- what contracts see of a follower: its node, and the refills that it has yet to ask for, the oldest first
pub record FollowerState : Type 0 where
  pub node : Node
  pub refills : List Refill

-- the follower with this node and these refills to ask for, the oldest first
abbrev pub follower_state : Node → List Refill → FollowerState
follower_state node refills = record { node = node; refills = refills }
