-- A leader or a follower as one kind of node, and what it does as such.
use Rattle.std.specs.Prelude.{ℕ, ◌≡◌, Bool, List, [], Option}
use Rattle.cache_items.specs.Delivered.{dropped_lists}
use Rattle.cache_items.specs.Node.{Node, emptied}
use Rattle.core_model.specs.cache_node.True.{IsTrueNode}
use Rattle.core_model.specs.follower_cache.Refills.{Queues}
use Rattle.core_model.specs.follower_cache.Seen.{FollowerState}
use Rattle.core_model.specs.follower_cache.declared.queue.Refill.{Refill}
use Rattle.maint_msg.specs.Maints.{SeenMaint}
use Rattle.shard_log.specs.View.{View}
use Rattle.tao_base.specs.EdgeTypes.{EdgeTypes}
use Rattle.tao_base.specs.declared.id.Key.{Key}
use Rattle.core_model.specs.Evictions.{Evicts}
use Rattle.core_model.specs.Messages.{Delivers}

-- ---- how it is seen

-- a leader is seen as its node
abbrev pub leader_node : Node → Node
leader_node leader = leader

-- the refills of a leader, which has none
abbrev pub leader_refills : Node → List Refill
leader_refills leader = []

-- the node of a follower, without its refills
abbrev pub follower_node : FollowerState → Node
follower_node follower = follower.node

-- the refills that wait at a follower, the oldest first
abbrev pub follower_refills : FollowerState → List Refill
follower_refills follower = follower.refills

-- ---- what it does

-- a leader or follower is this node, true of what it has seen, and no refill waits
pub record BeginsAs {N : Type 0} (node : N → Node) (refills : N → List Refill) (begun : Node) (cache : N) : Type 0 where
  pub node_is : node cache ≡ begun
  pub refills_are : refills cache ≡ []
  pub truth : IsTrueNode (node cache)

-- the node of a leader or follower changes so, and its refills stay
pub record ChangesAlone {N : Type 0} (node : N → Node) (refills : N → List Refill) (By : Node → Node → Type 0) (old new : N) : Type 0 where
  pub by : By (node old) (node new)
  pub rest : refills new ≡ refills old

-- a leader or follower processes a message, and a refill is queued for each list that it drops, or is left out
pub record DeliversAs {N : Type 0} (node : N → Node) (refills : N → List Refill) (types : EdgeTypes) (m : SeenMaint) (dropped : ℕ) (old new : N) : Type 0 where
  pub by : Delivers m dropped (node old) (node new)
  pub queues : Queues types (dropped_lists (node old).items m.keys) (refills old) (refills new)

-- the item at the key is dropped, or without a key the one that was used least recently, and no refill
abbrev pub EvictsAs : {N : Type 0} → (N → Node) → (N → List Refill) → Option Key → Bool → N → N → Type 0
EvictsAs node refills key held = ChangesAlone node refills (Evicts key held)

-- a leader or follower is emptied, and begins at these marks, with these notes; no refill waits
pub record IsEmptiedAs {N : Type 0} (node : N → Node) (refills : N → List Refill) (lows : List ℕ) (notes : List View) (old new : N) : Type 0 where
  pub node_is : node new ≡ emptied lows notes (node old)
  pub refills_are : refills new ≡ []
