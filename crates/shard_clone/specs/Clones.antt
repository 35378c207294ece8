-- Which followers serve a shard: the preferred one of their tier, and its clones.
use Rattle.std.specs.Prelude.{◌≡◌, ◌≢◌, ℕ, ◌+◌, ◌*◌, ◌%◌, ◌≤◌, Bool, false, not, ◌&&◌, ◌||◌, ◌==◌, ◌⊎◌, List, length, map, All, IsTrue, nat_lt}
use Rattle.std.specs.Prelude.{replicate, slice_index_or}
use Rattle.node_name.specs.declared.NodeName.{NodeName}
use Rattle.node_name.specs.declared.NodeName.TheVariants.{Store, Leader, Follower}
use Rattle.topology.specs.Config.{Settings}
use Rattle.topology.specs.Counts.{KeepCounts, NodeCounts, counts_of, follower_count}

-- the numbers of the regions' nodes, how many shards there are, and for each follower and shard whether it is a clone
pub record Clones : Type 0 where
  pub regions : List NodeCounts
  pub shards : ℕ
  pub flags : List Bool

abbrev pub clones_of : List NodeCounts → ℕ → List Bool → Clones
clones_of regions shards flags = record { regions = regions; shards = shards; flags = flags }

-- the numbers are a configuration's, and there is a flag for each follower and shard
pub record KeepClones (c : Clones) : Type 0 where
  pub regions : length c.regions ≤ 4
  pub counts : All KeepCounts c.regions
  pub shards : c.shards ≤ 64
  pub flags : length c.flags ≡ 4096

-- the table of a configuration, without a clone
abbrev pub no_clones : Settings → Clones
no_clones s = clones_of (map counts_of s.regions) s.shards (replicate 4096 false)

-- a node is a configured follower
abbrev pub is_follower : List NodeCounts → NodeName → Bool
is_follower regions (Store store) = false
is_follower regions (Leader region index) = false
is_follower regions (Follower region tier index) = nat_lt index (follower_count regions region tier)

-- a node is the configured follower of its tier that serves the shard by itself
abbrev pub is_preferred : List NodeCounts → NodeName → ℕ → Bool
is_preferred regions (Store store) shard = false
is_preferred regions (Leader region index) shard = false
is_preferred regions (Follower region tier index) shard =
    nat_lt index (follower_count regions region tier) && index == shard % follower_count regions region tier

-- a node may be a clone of a shard: it is a configured follower and not the preferred one, and the shard is configured
abbrev pub may_clone : Clones → NodeName → ℕ → Bool
may_clone c node shard = nat_lt shard c.shards && (is_follower c.regions node && not (is_preferred c.regions node shard))

-- the place of a follower among those of all tiers, of which each has four
abbrev pub follower_index : NodeName → ℕ
follower_index (Store store) = 0
follower_index (Leader region index) = 0
follower_index (Follower region tier index) = (region * 4 + tier) * 4 + index

-- the place of a clone's flag: 64 for each shard
abbrev pub clone_place : NodeName → ℕ → ℕ
clone_place node shard = shard * 64 + follower_index node

-- a node is a clone of a shard
abbrev pub is_clone : Clones → NodeName → ℕ → Bool
is_clone c node shard = may_clone c node shard && slice_index_or c.flags (clone_place node shard) false

-- a node serves a shard: as the preferred follower of its tier, or as a clone
abbrev pub serves : Clones → NodeName → ℕ → Bool
serves c node shard = is_preferred c.regions node shard || is_clone c node shard

-- the node may be a clone of the shard, and is one just where it is not to be one
pub record ChangesClone (node : NodeName) (shard : ℕ) (on : Bool) (c : Clones) : Type 0 where
  pub may : IsTrue (may_clone c node shard)
  pub differs : serves c node shard ≢ on

-- one follower serves a shard or not, and nothing else has changed
pub record SetsClone (node : NodeName) (shard : ℕ) (on : Bool) (old new : Clones) : Type 0 where
  pub here : serves new node shard ≡ on
  pub others : (other : NodeName) (s : ℕ) → (other ≢ node) ⊎ (s ≢ shard) → serves new other s ≡ serves old other s
  pub rest : new ≡ record old { flags = new.flags }
