-- The nodes that a core begins with.
use Rattle.std.specs.Prelude.{ℕ, ◌≡◌, ◌≤◌, ◌<◌, Bool, All, List, [], Option, Some, None, length, map, slice_get, unwrap_or}
use Rattle.cache_items.specs.Node.{Node, empty_node}
use Rattle.follower_cache.specs.Seen.{FollowerState}
use Rattle.follower_cache.specs.declared.queue.Refill.{Refill}
use Rattle.graph_model.specs.Told.{WhereTold}
use Rattle.node_name.specs.declared.NodeName.{NodeName}
use Rattle.node_stages.specs.Caches.{BeginsAs, follower_node, follower_refills, leader_node, leader_refills}
use Rattle.served_shards.specs.Begun.{AreReached, AreToldAlike, begun_at}
use Rattle.shard_log.specs.View.{View}
use Rattle.shard_tables.specs.StoreView.{Store}
use Rattle.shard_tables.specs.Stores.{note_of}
use Rattle.tao_base.specs.declared.id.StoreName.{StoreName}
use Rattle.tao_keeper.specs.Table.{Tables}
use Rattle.topology.specs.Config.{Settings}
use Rattle.core_model.specs.Emptied.{IsAtStore}
use Rattle.core_model.specs.Fleet.{EachIs, Fleet, follower_names, leader_names, node_names, region_of, served_by}
use Rattle.core_model.specs.Pens.{no_view}
use Rattle.core_model.specs.Stores.{AreStores, IsConfiguredStore, region_store, store_count, store_place}
use Rattle.core_model.specs.declared.named.Named.{Named}
use Rattle.node_stages.specs.declared.standing.Stand.{Stand}

-- ---- the lengths of the logs

-- the length of the log at a place, of the lengths of all
abbrev pub length_at : List ℕ → ℕ → ℕ
length_at lengths place = unwrap_or (slice_get lengths place) 0

-- the length of the log of a region's store of the shard, of the lengths of all
abbrev pub length_in : Settings → List ℕ → ℕ → ℕ → ℕ
length_in s lengths region shard = length_at lengths (store_place s (region_store region shard))

-- the lengths are those of the logs of the first stores, so many, in order
pub record AreFirstLengths (tells : Bool) (tables : Tables) (stores : List Store) (count : ℕ) (lengths : List ℕ) : Type 0 where
  pub long : length lengths ≡ count
  pub each : (place : ℕ) (store : Store) → slice_get stores place ≡ Some store → place < count
      → WhereTold tells (length_at lengths place ≡ length (tables store.name).log)

-- the lengths are those of the logs of all stores, by their places
pub record AreLengths (tells : Bool) (s : Settings) (tables : Tables) (lengths : List ℕ) : Type 0 where
  pub long : length lengths ≡ store_count s
  pub each : (at : StoreName) → IsConfiguredStore s at → WhereTold tells (length_at lengths (store_place s at) ≡ length (tables at).log)

-- the stores' logs are told all, or none
pub record AreAlikeStores (stores : List Store) : Type 0 where
  pub told : Bool
  pub each : (place : ℕ) (store : Store) → slice_get stores place ≡ Some store → store.view.log.told ≡ told

-- each store has seen as much of its shard's log as is its length, where that is told
abbrev pub HaveSeenLengths : List Store → List ℕ → Type 0
HaveSeenLengths stores lengths = (place : ℕ) (store : Store) → slice_get stores place ≡ Some store
    → WhereTold store.view.log.told (length_at lengths place ≤ length store.view.entries)

-- the stores are those of the configuration, and have seen so much of their shards' logs
pub record AreMeasured (s : Settings) (stores : List Store) (lengths : List ℕ) : Type 0 where
  pub configured : AreStores s (store_count s) stores
  pub seen : HaveSeenLengths stores lengths
  pub alike : AreAlikeStores stores

-- ---- what a node begins with

-- a note that has seen all that the store has; without a store the view of no log
abbrev pub note_or_none : Option Store → View
note_or_none None = no_view
note_or_none (Some store) = note_of store

-- a note that has seen all that the store at the place has
abbrev pub note_at : List Store → ℕ → View
note_at stores place = note_or_none (slice_get stores place)

-- a note that has seen all that a region's store of the shard has
abbrev pub note_in : Settings → List Store → ℕ → ℕ → View
note_in s stores region shard = note_at stores (store_place s (region_store region shard))

-- what a node of the region begins with that serves the shards: the lengths of its region's stores, and notes of these
pub record IsTurn (s : Settings) (stores : List Store) (lengths : List ℕ) (region : ℕ) (shards : List ℕ) (turn : Stand) : Type 0 where
  pub lows : turn.lows.items ≡ map (length_in s lengths region) shards
  pub notes : turn.notes.items ≡ map (note_in s stores region) shards
  pub reached : AreReached turn.lows.items turn.notes.items
  pub alike : AreToldAlike turn.notes.items

-- ---- the nodes

-- a node of that name that holds nothing, up to as many items as are configured: it has seen all that its region's stores of its shards have seen, and
-- processed all that they have
abbrev pub begun_node : Settings → List Store → List ℕ → NodeName → Node
begun_node s stores lengths name = empty_node s.cache_items (begun_at (served_by s name)
    (map (length_in s lengths (region_of name)) (served_by s name)) (map (note_in s stores (region_of name)) (served_by s name)))

-- the leader or follower holds nothing, not even a refill, and is true of the logs
abbrev pub IsBegun : {N : Type 0} → (N → Node) → (N → List Refill) → Settings → List Store → List ℕ → Named N → Type 0
IsBegun node refills s stores lengths cache = BeginsAs node refills (begun_node s stores lengths cache.name) cache.node

-- the leaders and followers are those of the configuration, and each holds nothing
pub record AreBegun (s : Settings) (stores : List Store) (lengths : List ℕ) (leaders : List (Named Node)) (followers : List (Named FollowerState))
    : Type 0 where
  pub leader_names : node_names leaders ≡ leader_names s
  pub follower_names : node_names followers ≡ follower_names s
  pub each_leader : All (IsBegun leader_node leader_refills s stores lengths) leaders
  pub each_follower : All (IsBegun follower_node follower_refills s stores lengths) followers

-- the leaders and followers hold nothing, and begin at the lengths of the logs of their regions' stores
pub record MayStand (tells : Bool) (s : Settings) (tables : Tables) (stores : List Store) (leaders : List (Named Node)) (followers : List (Named FollowerState))
    : Type 0 where
  pub lengths : List ℕ
  pub are : AreLengths tells s tables lengths
  pub begun : AreBegun s stores lengths leaders followers

-- the nodes of a core stand before these stores, hold nothing, and begin at the lengths of their logs
pub record HaveBegun (tells : Bool) (s : Settings) (tables : Tables) (stores : List Store) (f : Fleet) : Type 0 where
  pub nodes : MayStand tells s tables stores f.leaders f.followers
  pub stores_are : f.stores ≡ stores

-- ---- what is known of them

-- the node holds no item, and no ask is open
pub record IsEmptyNode (node : Node) : Type 0 where
  pub items : node.items ≡ []
  pub asks : node.asks.asks ≡ []

-- the follower holds no item, no ask is open, and no refill waits
pub record IsEmptyFollower (follower : FollowerState) : Type 0 where
  pub node : IsEmptyNode follower.node
  pub refills : follower.refills ≡ []

-- every leader and follower holds nothing
pub record IsEmptyFleet (f : Fleet) : Type 0 where
  pub leaders : All (λ leader. IsEmptyNode leader.node) f.leaders
  pub followers : All (λ follower. IsEmptyFollower follower.node) f.followers

-- every leader and follower may hold so many items
pub record MayHold (most : ℕ) (f : Fleet) : Type 0 where
  pub leaders : EachIs (λ name node. node.most ≡ most) f.leaders
  pub followers : EachIs (λ name follower. follower.node.most ≡ most) f.followers

-- every leader and follower has processed all that its region's stores have of the shards that it serves, and nothing ahead
pub record AreAtStores (tables : Tables) (f : Fleet) : Type 0 where
  pub leaders : EachIs (λ name node. IsAtStore tables (region_of name) node) f.leaders
  pub followers : EachIs (λ name follower. IsAtStore tables (region_of name) follower.node) f.followers
