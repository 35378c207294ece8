-- Nodes that lose what they hold and begin anew: as they go down, and as they come up or are reset.
use Rattle.std.specs.Prelude.{ℕ, ◌≡◌, ⊤, Bool, List, [], ◌∷◌, Some}
use Rattle.cache_items.specs.Node.{Node, emptied}
use Rattle.follower_cache.specs.Seen.{FollowerState}
use Rattle.graph_model.specs.Told.{WhereTold}
use Rattle.low_water.specs.Marks.{marks}
use Rattle.node_name.specs.declared.NodeName.{NodeName}
use Rattle.node_name.specs.declared.NodeName.TheVariants.{Store as StoreName_, Leader, Follower}
use Rattle.served_shards.specs.Served.{ServedShard, served_at}
use Rattle.shard_log.specs.View.{View}
use Rattle.tao_keeper.specs.Table.{Tables}
use Rattle.core_model.specs.Consistent.{AreToldAs, HasReached}
use Rattle.core_model.specs.Fleet.{ChangesNode, Fleet}
use Rattle.core_model.specs.Pens.{IsSeen, Pens, SeenRule}
use Rattle.core_model.specs.Stores.{store_length}

-- the stores of a region, over keepers that tell their tables or not
pub record RegionTables : Type 0 where
  pub tells : Bool
  pub tables : Tables
  pub region : ℕ

-- a region's stores, given whether their keepers tell the tables, the tables, and the region
abbrev pub region_tables : Bool → Tables → ℕ → RegionTables
region_tables tells tables region = record { tells = tells; tables = tables; region = region }

-- where a node begins anew: at the marks that it has, as one that goes down, or at the lengths of its region's stores, as one that comes up or is reset
pub data Anew : Type 0 where
  at_marks : Anew
  at_stores : RegionTables → Anew

-- a shard of which everything up to that position counts as processed then
abbrev pub IsLowFor : Anew → ServedShard → ℕ → Type 0
IsLowFor at_marks s low = low ≡ s.marks.low
IsLowFor (at_stores at) s low = WhereTold at.tells (low ≡ store_length at.tables at.region s.shard)

-- a shard begins anew: what is up to the position counts as processed, and the note of its log is right
pub record RestartsShard (Seen : SeenRule) (at : Anew) (s : ServedShard) (low : ℕ) (note : View) : Type 0 where
  pub seen : Seen s.shard note
  pub low_is : IsLowFor at s low

-- each served shard begins anew, with the position and the note that stand at its place in the lists
abbrev pub RestartEach : SeenRule → Anew → List ServedShard → List ℕ → List View → Type 0
RestartEach Seen at [] [] [] = ⊤
RestartEach Seen at (s ∷ ss) (low ∷ lows) (note ∷ notes) = RestartsShard Seen at s low note × RestartEach Seen at ss lows notes
RestartEach Seen at served lows notes = ⊥

-- the node loses all its items and asks, and begins anew with notes that are right
pub record Restarts (Seen : SeenRule) (at : Anew) (old new : Node) : Type 0 where
  pub lows : List ℕ
  pub notes : List View
  pub each : RestartEach Seen at old.served lows notes
  pub node_is : new ≡ emptied lows notes old

-- the shards of a node begin anew with notes of their logs
abbrev pub BeginEach : Pens → Anew → List ServedShard → List ℕ → List View → Type 0
BeginEach pens at served lows notes = RestartEach (IsSeen pens) at served lows notes

-- the node loses all its items and asks, and begins anew with notes of the core's logs
abbrev pub BeginsAnew : Pens → Anew → Node → Node → Type 0
BeginsAnew pens at old new = Restarts (IsSeen pens) at old new

-- the follower loses all its items, asks and refills, and begins anew with notes of the core's logs
pub record FollowerBeginsAnew (pens : Pens) (at : Anew) (old new : FollowerState) : Type 0 where
  pub node : BeginsAnew pens at old.node new.node
  pub refills : new.refills ≡ []

-- the leader or follower of that name loses what it holds and begins anew, and nothing else of the core's nodes changes
abbrev pub EmptiesCache : NodeName → Pens → Anew → Fleet → Fleet → Type 0
EmptiesCache (StoreName_ store) pens at old new = ⊥
EmptiesCache (Leader region index) pens at old new =
    ChangesNode (Leader region index) (BeginsAnew pens at) old.leaders new.leaders × (new ≡ record old { leaders = new.leaders })
EmptiesCache (Follower region tier index) pens at old new =
    ChangesNode (Follower region tier index) (FollowerBeginsAnew pens at) old.followers new.followers × (new ≡ record old { followers = new.followers })

-- no mark falls by that: the stores are told where the node's logs are, and have come to what it has marked
abbrev pub MayBeginAnew : Anew → Node → Type 0
MayBeginAnew at_marks node = ⊤
MayBeginAnew (at_stores at) node = AreToldAs at.tells node.served × WhereTold at.tells (HasReached at.tables at.region node)

-- the node has processed all that its region's store has of each shard that it serves, and nothing ahead
abbrev pub IsAtStore : Tables → ℕ → Node → Type 0
IsAtStore tables region node = (shard : ℕ) (t : ServedShard) → served_at shard node.served ≡ Some t → t.marks ≡ marks (store_length tables region shard) []
