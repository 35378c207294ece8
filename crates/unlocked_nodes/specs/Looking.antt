-- What is looked at before nodes that came out of locks are settled.
use Rattle.std.specs.Prelude.{ℕ, ◌≡◌, ◌≤◌, ◌<◌, All, Bool, IsTrue, List, Some, length, slice_get}
use Rattle.cache_items.specs.Node.{Node}
use Rattle.core_model.specs.Consistent.{AreSeen, IsRightNode}
use Rattle.core_model.specs.Fleet.{EachIs, Fleet, follower_names, leader_names, node_names, serves}
use Rattle.core_model.specs.Pens.{AreFirstNotes, IsSeen, Pens, pens_of}
use Rattle.core_model.specs.Stores.{AreStores, FollowMasters, IsStoreAt, master_log, master_store, region_store, store_count, store_length, store_place, stores_in}
use Rattle.core_nodes.specs.Beginning.{length_at}
use Rattle.core_nodes.specs.declared.settling.SettleStop.{SettleStop}
use Rattle.core_nodes.specs.declared.settling.SettleStop.TheVariants as stop
use Rattle.graph_model.specs.Told.{WhereTold}
use Rattle.log_names.specs.Names.{IsOfLog, LogNames}
use Rattle.node_name.specs.declared.NodeName.{NodeName}
use Rattle.replies.specs.declared.refusals.UnsettledWhy.TheVariants as why
use Rattle.served_shards.specs.Served.{ServedShard, low_at, served_at}
use Rattle.shard_log.specs.View.{LogName, View}
use Rattle.shard_tables.specs.Slaves.{HasMet}
use Rattle.shard_tables.specs.StoreView.{Store}
use Rattle.shard_tables.specs.declared.store.StoreRole.TheVariants.{Master}
use Rattle.shared_nodes.specs.Nodes.{IsSharedNode}
use Rattle.shared_stores.specs.Making.{Making}
use Rattle.tao_base.specs.declared.entry.Change.{Change}
use Rattle.tao_base.specs.declared.entry.Change.TheVariants.{PutObject, DropObject, SetEdge, CutEdge}
use Rattle.tao_base.specs.declared.entry.Entry.{Entry}
use Rattle.tao_base.specs.declared.entry.Touch.{Touch}
use Rattle.tao_keeper.specs.Table.{Tables}
use Rattle.tao_keeper.specs.declared.keeper.KeepFail.{KeepFail}
use Rattle.tao_keeper.specs.declared.keeper.KeepFail.TheVariants as keep
use Rattle.topology.specs.Config.{Settings}
use Rattle.write_model.specs.Merges.{entries_ever}

-- ---- what no keeper is asked for

-- the store is the configuration's of its name, and it and its notes are of the cluster's logs
pub record IsOfCluster (m : Making) (log : LogNames) (store : Store) (notes : List View) : Type 0 where
  pub is : IsStoreAt m.settings (store_place m.settings store.name) store
  pub log_is : IsOfLog log store.name.shard store.view
  pub notes_are : (shard : ℕ) (note : View) → slice_get notes shard ≡ Some note → IsOfLog log shard note

-- each store that stands at the place of its name is the cluster's, and so is each leader and follower
pub record AreOfCluster (m : Making) (log : LogNames) (f : Fleet) (noted : List (List View)) : Type 0 where
  pub many : length f.stores ≡ store_count m.settings
  pub noted_long : length noted ≡ length f.stores
  pub stores : (place : ℕ) (store : Store) (notes : List View) → slice_get f.stores place ≡ Some store → slice_get noted place ≡ Some notes
      → place ≡ store_place m.settings store.name → IsOfCluster m log store notes
  pub leaders : EachIs (IsSharedNode m log) f.leaders
  pub followers : EachIs (λ name follower. IsSharedNode m log name follower.node) f.followers

-- ---- names

-- each store stands at the place of its name
abbrev pub AreInPlace : Settings → List Store → Type 0
AreInPlace s stores = (place : ℕ) (store : Store) → slice_get stores place ≡ Some store → place ≡ store_place s store.name

-- leaders, followers and stores are those of the configuration, in order
pub record AreConfigured (s : Settings) (f : Fleet) : Type 0 where
  pub stores : AreInPlace s f.stores
  pub leaders : node_names f.leaders ≡ leader_names s
  pub followers : node_names f.followers ≡ follower_names s

-- ---- what was seen meets the masters' logs

-- the store at the place of a shard's master, if it has that name, is of the log
abbrev pub AreOfLog : Settings → ℕ → List Store → LogName → Type 0
AreOfLog s shard stores log = (store : Store) → slice_get stores (store_place s (master_store s shard)) ≡ Some store
    → store.name ≡ master_store s shard → store.view.log ≡ log

-- the note met the store of a shard's master
pub record MeetsMaster (s : Settings) (shard : ℕ) (stores : List Store) (old new : View) : Type 0 where
  pub store : Store
  pub stands : slice_get stores (store_place s (master_store s shard)) ≡ Some store
  pub name_is : store.name ≡ master_store s shard
  pub role_is : store.role ≡ Master
  pub has_met : HasMet store old new

-- each store is of the log of its shard's master
abbrev pub AreOfLogs : List Store → Type 0
AreOfLogs stores = (place : ℕ) (store : Store) → slice_get stores place ≡ Some store → (pens_of stores store.name.shard).log ≡ store.view.log

-- each of the first notes, so many, is of the log of its shard's master
abbrev pub NotesAreOfLogs : Pens → ℕ → List View → Type 0
NotesAreOfLogs pens count notes = (shard : ℕ) (note : View) → shard < count → slice_get notes shard ≡ Some note → (pens shard).log ≡ note.log

-- each of the first notes of each store, so many, is of the log of its shard's master
abbrev pub NotedAreOfLogs : Pens → ℕ → List (List View) → Type 0
NotedAreOfLogs pens count noted = (place : ℕ) (notes : List View) → slice_get noted place ≡ Some notes → NotesAreOfLogs pens count notes

-- each master's notes are of all shards' logs, so many, and begin these
abbrev pub HaveMet : ℕ → List Store → List (List View) → Type 0
HaveMet count stores noted = (place : ℕ) (store : Store) (notes : List View) → slice_get stores place ≡ Some store
    → slice_get noted place ≡ Some notes → store.role ≡ Master → AreFirstNotes (pens_of stores) count notes

-- the node is right as one of the configuration's, and what it has seen is of the logs of the masters
abbrev pub NodeIsOfLogs : Settings → Pens → NodeName → Node → Type 0
NodeIsOfLogs s pens name node = IsRightNode s (λ shard view. (pens shard).log ≡ view.log) name node

-- what the node has seen of the shard's log, where it serves that, begins it
abbrev pub HasMetAt : Pens → ℕ → Node → Type 0
HasMetAt pens shard node = (t : ServedShard) → served_at shard node.served ≡ Some t → IsSeen pens shard t.view

-- leaders, followers and stores are the configuration's, and all that they and the masters' notes have seen begins the shards' logs
pub record AllHaveMet (s : Settings) (f : Fleet) (noted : List (List View)) : Type 0 where
  pub configured : AreStores s (store_count s) f.stores
  pub follow : FollowMasters f.stores
  pub notes : HaveMet s.shards f.stores noted
  pub leader_names_are : node_names f.leaders ≡ leader_names s
  pub follower_names_are : node_names f.followers ≡ follower_names s
  pub leaders : EachIs (λ name node. AreSeen (pens_of f.stores) node.served) f.leaders
  pub followers : EachIs (λ name follower. AreSeen (pens_of f.stores) follower.node.served) f.followers

-- ---- cuts

-- no log of the shard is cut past this position, and each store of the shard has come to it
pub record BoundsCuts (s : Settings) (tables : Tables) (shard bound : ℕ) : Type 0 where
  pub cuts : (region : ℕ) → region < length s.regions → (tables (region_store region shard)).cut ≤ bound
  pub come : (region : ℕ) → region < length s.regions → bound ≤ store_length tables region shard

-- the positions bound the cuts of the first shards, so many, in order
pub record AreBounds (tells : Bool) (s : Settings) (tables : Tables) (count : ℕ) (bounds : List ℕ) : Type 0 where
  pub long : length bounds ≡ count
  pub each : WhereTold tells ((shard : ℕ) → shard < count → BoundsCuts s tables shard (length_at bounds shard))

-- the node has processed all up to these positions, of the shards that it serves
abbrev pub IsPastBounds : Settings → List ℕ → NodeName → Node → Type 0
IsPastBounds s bounds name node = (shard : ℕ) → shard < s.shards → IsTrue (serves s name shard) → length_at bounds shard ≤ low_at shard node.served

-- ---- stamps

-- the number of the stamp that a change gives; 0 where it gives none
abbrev pub number_in : Change → ℕ
number_in (PutObject object) = 0
number_in DropObject = 0
number_in (SetEdge edge was) = edge.stamp.number
number_in (CutEdge id2 stamp was) = stamp.number

-- the stamp of the touch has no number above this one
abbrev pub IsNumberWithin : ℕ → Touch → Type 0
IsNumberWithin limit t = number_in t.change ≤ limit

-- no stamp of the entry has a number above this one
abbrev pub AreNumbersWithin : ℕ → Entry → Type 0
AreNumbersWithin limit e = All (IsNumberWithin limit) e.touches

-- no stamp in the log of any shard has a number above that of all entries
pub record LogsFit (s : Settings) (tables : Tables) : Type 0 where
  pub fit : (shard : ℕ) → shard < s.shards → All (AreNumbersWithin (entries_ever (stores_in s tables))) (master_log s tables shard)

-- ---- what keepers are asked for

-- each store has come to the cuts of its shard, each node is past those of the shards that it serves, and no stamp's number is above that of all entries
pub record TablesFit (s : Settings) (tables : Tables) (f : Fleet) : Type 0 where
  pub bounds : List ℕ
  pub each : (shard : ℕ) → shard < s.shards → BoundsCuts s tables shard (length_at bounds shard)
  pub leaders : All (λ leader. IsPastBounds s bounds leader.name leader.node) f.leaders
  pub followers : All (λ follower. IsPastBounds s bounds follower.name follower.node.node) f.followers
  pub logs : LogsFit s tables

-- ---- what it stops with

-- where a keeper doesn't tell of a shard's log
abbrev pub stop_for : ℕ → KeepFail → SettleStop
stop_for shard keep.Failed = stop.Unsettled shard why.KeeperFault
stop_for shard keep.OutOfMemory = stop.OutOfMemory
