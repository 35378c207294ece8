-- The leader or follower of a name that loses all that it holds.
use Rattle.std.specs.Prelude.{ℕ, ◌≡◌, ⊤, ◌≤◌, List, [], ◌∷◌, length, map, true}
use Rattle.cache_items.specs.Node.{Node}
use Rattle.cache_node.specs.True.{IsTrueNode}
use Rattle.graph_model.specs.Told.{WhereTold}
use Rattle.node_name.specs.declared.NodeName.{NodeName}
use Rattle.node_name.specs.declared.NodeName.TheVariants.{Store, Leader, Follower}
use Rattle.shard_log.specs.View.{View}
use Rattle.tao_keeper.specs.Table.{Tables}
use Rattle.topology.specs.Config.{Settings}
use Rattle.core_model.specs.Consistent.{GoesOn, HaveReached, IsFleetOf}
use Rattle.core_model.specs.Emptied.{Anew, BeginEach, EmptiesCache, MayBeginAnew, RegionTables, at_marks, at_stores, region_tables}
use Rattle.core_model.specs.Fleet.{Fleet, region_of, served_by}
use Rattle.core_model.specs.Pens.{IsSeen, Pens, pens_of}
use Rattle.core_model.specs.Stores.{store_length}
use Rattle.core_nodes.specs.Stages.{NodeIs}
use Rattle.node_stages.specs.declared.standing.Stand.{Stand}

-- the node may be emptied, and begin at these marks with these notes
pub record MayEmpty (pens : Pens) (at : Anew) (lows : List ℕ) (notes : List View) (node : Node) : Type 0 where
  pub each : BeginEach pens at node.served lows notes
  pub may : MayBeginAnew at node

-- the leader or follower of that name is such
abbrev pub CacheIs : NodeName → (Node → Type 0) → Fleet → Type 0
CacheIs (Store store) Such f = ⊥
CacheIs (Leader region index) Such f = NodeIs (Leader region index) Such f.leaders
CacheIs (Follower region tier index) Such f = NodeIs (Follower region tier index) (λ x. Such x.node) f.followers

-- where it begins at its region's stores, these are the tables of them
abbrev pub IsOver : Tables → ℕ → Anew → Type 0
IsOver tables region at_marks = ⊤
IsOver tables region (at_stores over) = over ≡ region_tables true tables region

-- the leader or follower of that name begins anew; the nodes are still those of the configuration, and go on
pub record EmptiesThere (s : Settings) (name : NodeName) (at : Anew) (old new : Fleet) : Type 0 where
  pub empties : EmptiesCache name (pens_of old.stores) at old new
  pub fleet : IsFleetOf s new
  pub goes : GoesOn old new
  -- no node marks then what its region's store hasn't
  pub reached : (tables : Tables) → IsOver tables (region_of name) at → HaveReached tables old → HaveReached tables new

-- ---- what it begins with, as it comes up

-- of a shard the length of a region's store, and a note of the shard's log, which has seen that
pub record BeginsFor (pens : Pens) (at : RegionTables) (shard low : ℕ) (note : View) : Type 0 where
  pub seen : IsSeen pens shard note
  pub low_is : WhereTold at.tells (low ≡ store_length at.tables at.region shard)
  pub reached : WhereTold note.log.told (low ≤ length note.entries)

-- each of the shards has the length of its store in the region, and a note of its log, which has seen that
abbrev pub BeginFor : Pens → RegionTables → List ℕ → List ℕ → List View → Type 0
BeginFor pens at [] [] [] = ⊤
BeginFor pens at (shard ∷ shards) (low ∷ lows) (note ∷ notes) = BeginsFor pens at shard low note × BeginFor pens at shards lows notes
BeginFor pens at shards lows notes = ⊥

-- a node of that name begins so at its region's stores: of each shard that it serves it has that store's length, and a note
abbrev pub IsRestart : Settings → Pens → RegionTables → NodeName → Stand → Type 0
IsRestart s pens at name stand = BeginFor pens at (served_by s name) stand.lows.items stand.notes.items

-- ---- where it stands, as it goes down

-- the node serves the shards of its turn, and is true of what it has seen
pub record ServesTruly (s : Settings) (name : NodeName) (node : Node) : Type 0 where
  pub shards : map (λ t. t.shard) node.served ≡ served_by s name
  pub truth : IsTrueNode node
