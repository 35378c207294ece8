-- Nodes before logs whose first entries are old: none lies behind a cut.
use Rattle.std.specs.Prelude.{ℕ, ◌≡◌, ◌≤◌, true, Some}
use Rattle.cache_items.specs.Node.{Node}
use Rattle.served_shards.specs.Served.{ServedShard, served_at}
use Rattle.tao_keeper.specs.Table.{Tables}
use Rattle.topology.specs.Config.{Settings}
use Rattle.core_model.specs.Consistent.{GoesOn, IsConsistent}
use Rattle.core_model.specs.Emptied.{IsAtStore}
use Rattle.core_model.specs.Fleet.{EachIs, Fleet, region_of}
use Rattle.core_model.specs.Growing.{StoresGrow}
use Rattle.core_model.specs.Stores.{ComeToCuts, HaveMasterRegions, IsConfiguredStore, region_store}

-- the cut of the log that a region's store has of a shard
abbrev pub store_cut : Tables → ℕ → ℕ → ℕ
store_cut tables region shard = (tables (region_store region shard)).cut

-- the node has processed what is old in its region's stores, of each shard that it serves
pub record IsPastCuts (tables : Tables) (region : ℕ) (node : Node) : Type 0 where
  pub past : (shard : ℕ) (t : ServedShard) → served_at shard node.served ≡ Some t → store_cut tables region shard ≤ t.marks.low

-- no leader or follower lies behind a cut of its region's stores
pub record ArePastCuts (tables : Tables) (f : Fleet) : Type 0 where
  pub leaders : EachIs (λ name node. IsPastCuts tables (region_of name) node) f.leaders
  pub followers : EachIs (λ name follower. IsPastCuts tables (region_of name) follower.node) f.followers

-- what keeps nodes past the cuts
pub record NodesStayPastCuts (s : Settings) (before after : Tables) (old new : Fleet) : Type 0 where
  -- they go on, and no log is cut
  pub stay : HaveMasterRegions s → IsConsistent true s before old → GoesOn old new → StoresGrow true s before after
      → ArePastCuts before old → ArePastCuts after new

-- a node that has processed all that its region's stores have is past their cuts
pub record AtStoresIsPast (s : Settings) (tables : Tables) (region : ℕ) (node : Node) : Type 0 where
  pub past : ComeToCuts s tables → ((shard : ℕ) (t : ServedShard) → served_at shard node.served ≡ Some t → IsConfiguredStore s (region_store region shard))
      → IsAtStore tables region node → IsPastCuts tables region node
