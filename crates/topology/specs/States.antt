-- Which nodes of a configuration are up, and which leaders a tier suspects.
use Rattle.std.specs.Prelude.{◌≡◌, ◌≢◌, ℕ, ◌+◌, ◌*◌, ◌<◌, ◌≤◌, Bool, true, false, not, ◌&&◌, List, length, map, All, nat_lt, slice_index_or, replicate}
use Rattle.node_name.specs.declared.NodeName.{NodeName}
use Rattle.node_name.specs.declared.NodeName.TheVariants.{Store, Leader, Follower}
use Rattle.topology.specs.Config.{Settings}
use Rattle.topology.specs.Counts.{KeepCounts, NodeCounts, counts_of, follower_count, leader_count}

-- the regions, the master regions, and for each cache node whether it is down, for each tier and leader whether it is suspected
pub record NodeStates : Type 0 where
  pub regions : List NodeCounts
  pub masters : List ℕ
  pub down : List Bool
  pub suspected : List Bool

-- the numbers are a configuration's, and there is a place for each node and suspicion
pub record KeepPlaces (states : NodeStates) : Type 0 where
  pub regions : length states.regions ≤ 4
  pub counts : All KeepCounts states.regions
  pub master : 1 ≤ length states.masters
  pub masters : All (λ place. place < length states.regions) states.masters
  pub down : length states.down ≡ 80
  pub suspected : length states.suspected ≡ 256

-- each node is up and trusted
abbrev pub all_up : Settings → NodeStates
all_up s = record { regions = map counts_of s.regions; masters = s.masters; down = replicate 80 false; suspected = replicate 256 false }

-- a node is a leader or a follower of the configuration
abbrev pub is_cache : List NodeCounts → NodeName → Bool
is_cache regions (Store store) = false
is_cache regions (Leader region index) = nat_lt index (leader_count regions region)
is_cache regions (Follower region tier index) = nat_lt index (follower_count regions region tier)

-- the place of a cache node's flag: twenty for each region, of which four are for its leaders and four for each tier
abbrev pub node_place : NodeName → ℕ
node_place (Store store) = 0
node_place (Leader region index) = region * 20 + index
node_place (Follower region tier index) = region * 20 + 4 + tier * 4 + index

-- a store is always up, a cache node that the configuration lacks never
abbrev pub is_up : NodeStates → NodeName → Bool
is_up states (Store store) = true
is_up states (Leader region index) = is_cache states.regions (Leader region index) && not (slice_index_or states.down (node_place (Leader region index)) false)
is_up states (Follower region tier index) =
    is_cache states.regions (Follower region tier index) && not (slice_index_or states.down (node_place (Follower region tier index)) false)

-- one node is up or down, and nothing else has changed
pub record SetsUp (node : NodeName) (up : Bool) (old new : NodeStates) : Type 0 where
  pub here : is_up new node ≡ up
  pub others : (other : NodeName) → other ≢ node → is_up new other ≡ is_up old other
  pub rest : new ≡ record old { down = new.down }
