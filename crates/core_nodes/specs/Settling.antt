-- Nodes that process the rest of their regions' logs, as a settle makes them.
use Rattle.std.specs.Prelude.{ℕ, ◌≡◌, ◌≤◌, ◌<◌, ◌+◌, ◌==◌, ◌&&◌, ◌++◌, ⊤, Bool, Contains, List, [], Some, drop, filter, length, map}
use Rattle.std.specs.Prelude.{false, nat_le, nat_lt, slice_get, true}
use Rattle.std.specs.List.{range_with_len}
use Rattle.cache_items.specs.Node.{Node}
use Rattle.cache_items.specs.declared.item.Item.{Item}
use Rattle.counts.specs.Count.{Rose}
use Rattle.edge_repair.specs.Carries.{FailsAt}
use Rattle.follower_cache.specs.Seen.{FollowerState}
use Rattle.follower_cache.specs.declared.queue.Refill.{Refill}
use Rattle.graph_model.specs.Log.{version}
use Rattle.graph_model.specs.Told.{WhereTold}
use Rattle.low_water.specs.Marks.{marks}
use Rattle.node_name.specs.declared.NodeName.{NodeName}
use Rattle.node_name.specs.declared.NodeName.TheVariants.{Store as StoreName_}
use Rattle.replies.specs.declared.opening.OpenRefusal.{OpenRefusal}
use Rattle.replies.specs.declared.opening.OpenRefusal.TheVariants as opening
use Rattle.replies.specs.declared.refusals.UnsettledWhy.TheVariants.{KeeperFault, LinkFault, LogFull}
use Rattle.served_shards.specs.Served.{ServedShard, served_at}
use Rattle.shard_log.specs.View.{Begins, View}
use Rattle.shard_tables.specs.declared.refusal.StoreRefusal.{StoreRefusal}
use Rattle.shard_tables.specs.declared.refusal.StoreRefusal.TheVariants as refused
use Rattle.tao_base.specs.Keys.{key_shard}
use Rattle.tao_base.specs.declared.entry.Entry.{Entry}
use Rattle.tao_base.specs.declared.id.Key.{Key}
use Rattle.tao_base.specs.declared.id.StoreName.{StoreName}
use Rattle.tao_keeper.specs.KeeperState.{IsLater, KeeperState, KeepsTables}
use Rattle.tao_keeper.specs.Table.{Tables}
use Rattle.tao_link.specs.Cuts.{between}
use Rattle.tao_link.specs.Shown.{LinkShown}
use Rattle.topology.specs.Config.{Settings}
use Rattle.topology.specs.States.{NodeStates, is_up}
use Rattle.core_model.specs.Asks.{AsksGoOn}
use Rattle.core_model.specs.Consistent.{HasReached, IsNodeOf, MarksGoOn}
use Rattle.core_model.specs.Cuts.{IsPastCuts}
use Rattle.core_model.specs.Emptied.{IsAtStore, RegionTables, region_tables}
use Rattle.core_model.specs.Fleet.{EachNode, Fleet, follower_names, leader_names, node_names, region_of, regions_of, serves_in_turn}
use Rattle.core_model.specs.Pens.{IsSeen, Pens}
use Rattle.core_model.specs.Stores.{AreWhole, master_log, region_store, store_length}
use Rattle.core_model.specs.declared.named.Named.{Named}
use Rattle.core_nodes.specs.Outside.{Outside}
use Rattle.core_nodes.specs.declared.settling.SettleStop.{SettleStop}
use Rattle.core_nodes.specs.declared.settling.SettleStop.TheVariants.{NoServer, OutOfMemory, Unsettled}

-- ---- lengths

-- the length of each shard's log, in order
abbrev pub log_lengths : Settings → Tables → List ℕ
log_lengths s tables = map (λ shard. length (master_log s tables shard)) (range_with_len 0 s.shards)

-- ---- a node

-- what is held at a key isn't behind the key's store in the region
abbrev pub keeps_pace : Tables → ℕ → Key × Item → Bool
keeps_pace tables region held = nat_le (version (tables (region_store region (key_shard held.0))).log held.0) held.1.version

-- what is held at a key has the version that the log of the key's shard gives it
abbrev pub is_last : Settings → Tables → Key × Item → Bool
is_last s tables held = held.1.version == version (master_log s tables (key_shard held.0)) held.0

-- the node holds just what it held that isn't behind its region's stores, in the same order, which is what it held of the last versions where each
-- store has all of its shard's log; and it has processed all that its region's stores have
pub record CatchesUp (s : Settings) (tables : Tables) (region : ℕ) (old new : Node) : Type 0 where
  pub items : new.items ≡ filter (keeps_pace tables region) old.items
  pub last : AreWhole s tables → new.items ≡ filter (is_last s tables) old.items
  pub ends : IsAtStore tables region new

-- the numbers of the open asks, in the order in which they began
abbrev pub open_numbers : Node → List ℕ
open_numbers node = map (λ a. a.number) node.asks.asks

-- the node holds what it held, in the same order, but for some items; where the logs are told, each of these is behind the region's stores, and none is
-- of a last version. No mark fell, and the same asks are open
pub record ProcessesOn (s : Settings) (over : RegionTables) (old new : Node) : Type 0 where
  pub keeps : Key × Item → Bool
  pub items : new.items ≡ filter keeps old.items
  pub pace : WhereTold over.tells ((held : Key × Item) → keeps_pace over.tables over.region held ≡ true → keeps held ≡ true)
  pub last : WhereTold over.tells ((held : Key × Item) → is_last s over.tables held ≡ true → keeps held ≡ true)
  pub marks : MarksGoOn old new
  pub asks : open_numbers new ≡ open_numbers old
  pub most : new.most ≡ old.most

-- ---- all nodes

-- of a follower its node alone changes
abbrev pub ByNode : (NodeName → Node → Node → Type 0) → NodeName → FollowerState → FollowerState → Type 0
ByNode By name old new = By name old.node new.node × (new.refills ≡ old.refills)

-- a node that is up changes as is said, and one that is down stays as it is
pub record WhereUp {N : Type 0} (states : NodeStates) (By : NodeName → N → N → Type 0) (name : NodeName) (old new : N) : Type 0 where
  pub up : is_up states name ≡ true → By name old new
  pub down : is_up states name ≡ false → new ≡ old

-- every leader and every follower that is up has caught up with its region's stores
pub record AllCatchUp (s : Settings) (states : NodeStates) (tables : Tables) (old new : Fleet) : Type 0 where
  pub leaders : EachNode (WhereUp states (λ name. CatchesUp s tables (region_of name))) old.leaders new.leaders
  pub followers : EachNode (WhereUp states (ByNode (λ name. CatchesUp s tables (region_of name)))) old.followers new.followers

-- every leader and every follower that is up has gone on, as far as it came
pub record AllProcessOn (tells : Bool) (s : Settings) (states : NodeStates) (tables : Tables) (old new : Fleet) : Type 0 where
  pub leaders : EachNode (WhereUp states (λ name. ProcessesOn s (region_tables tells tables (region_of name)))) old.leaders new.leaders
  pub followers : EachNode (WhereUp states (ByNode (λ name. ProcessesOn s (region_tables tells tables (region_of name))))) old.followers new.followers

-- ---- what it asks of keepers and links

-- no count of the link fell, and what is cut stays so
pub record IsLaterLink (old new : LinkShown) : Type 0 where
  pub carries : old.carries ≤ new.carries
  pub faults : old.faults ≤ new.faults
  pub cuts : new.cuts ≡ old.cuts

-- the keepers were only read, and the link carried
pub record OnlyReads (tells : Bool) (old new : Outside) : Type 0 where
  pub tables : KeepsTables tells old.keepers new.keepers
  pub keepers : IsLater old.keepers new.keepers
  pub link : IsLaterLink old.link new.link

-- the name is that of a leader or a follower of the configuration
abbrev pub IsConfiguredCache : Settings → NodeName → Type 0
IsConfiguredCache s name = Contains (leader_names s ++ follower_names s) name

-- the last carry that failed went to a leader or a follower, from its region's store of the shard
pub record FailedToReach (s : Settings) (shard : ℕ) (link : LinkShown) : Type 0 where
  pub name : NodeName
  pub cache : IsConfiguredCache s name
  pub failed : link.failed ≡ Some (between (StoreName_ (region_store (region_of name) shard)) name)

-- why the store of a shard gives nothing of its log
abbrev pub StopsReads : ℕ → KeeperState → KeeperState → SettleStop → Type 0
StopsReads shard old new (Unsettled at KeeperFault) = (at ≡ shard) × Rose old.faults new.faults
StopsReads shard old new (Unsettled at LinkFault) = ⊥
StopsReads shard old new (Unsettled at LogFull) = ⊥
StopsReads shard old new (NoServer at) = ⊥
StopsReads shard old new OutOfMemory = ⊤

-- why the lengths of the logs aren't known. Which store was asked last can't be seen, so the shard is one of the configuration's, and no more
abbrev pub StopsLengths : Settings → KeeperState → KeeperState → SettleStop → Type 0
StopsLengths s old new (Unsettled shard KeeperFault) = (shard < s.shards) × Rose old.faults new.faults
StopsLengths s old new (Unsettled shard LinkFault) = ⊥
StopsLengths s old new (Unsettled shard LogFull) = ⊥
StopsLengths s old new (NoServer shard) = ⊥
StopsLengths s old new OutOfMemory = ⊤

-- why not every node has caught up
abbrev pub StopsCatchUp : Settings → Outside → Outside → SettleStop → Type 0
StopsCatchUp s old new (Unsettled shard KeeperFault) = (shard < s.shards) × Rose old.keepers.faults new.keepers.faults
StopsCatchUp s old new (Unsettled shard LinkFault) = (shard < s.shards) × Rose old.link.faults new.link.faults × FailedToReach s shard new.link
StopsCatchUp s old new (Unsettled shard LogFull) = ⊥
StopsCatchUp s old new (NoServer shard) = ⊥
StopsCatchUp s old new OutOfMemory = ⊤

-- what a store's refusal to read stops a settle with
abbrev pub StopsAs : ℕ → StoreRefusal → SettleStop → Type 0
StopsAs shard refused.KeeperFault stop = stop ≡ Unsettled shard KeeperFault
StopsAs shard refused.OutOfMemory stop = stop ≡ OutOfMemory
StopsAs shard (refused.LogFull length) stop = ⊥
StopsAs shard (refused.ShardFull serial) stop = ⊥
StopsAs shard (refused.StampFull number) stop = ⊥
StopsAs shard (refused.TooOld cut position) stop = ⊥
StopsAs shard (refused.SeqReused position) stop = ⊥

-- why a core isn't opened, where this stops the settle of its nodes
abbrev pub unmade_for : SettleStop → OpenRefusal
unmade_for (Unsettled shard why) = opening.KeeperFault
unmade_for (NoServer shard) = opening.KeeperFault
unmade_for OutOfMemory = opening.OutOfMemory

-- ---- one node on the way

-- why nothing is carried from a store to a node
abbrev pub StopsCarry : ℕ → StoreName → NodeName → LinkShown → LinkShown → SettleStop → Type 0
StopsCarry shard from to old new stop = (stop ≡ Unsettled shard LinkFault) × FailsAt (between (StoreName_ from) to) old new

-- the node serves the shard, and has not processed its log up to this length
abbrev pub lies_behind : Settings → NodeName → ℕ → ℕ → ℕ → Bool
lies_behind s name shard low until = serves_in_turn (regions_of s) name shard && nat_lt low until

-- while those of a region catch up it is the turn of each that is one of these, and up
abbrev pub is_turn : NodeStates → ℕ → NodeName → Bool
is_turn states region name = (region_of name == region) && is_up states name

-- the logs of a configuration's stores: in the tables, which the keeper tells or not, and as the pens have seen them
pub record SeenLogs : Type 0 where
  pub tells : Bool
  pub settings : Settings
  pub tables : Tables
  pub pens : Pens

-- the logs of a configuration's stores, given whether the tables are told, the tables, and the pens
abbrev pub seen_logs : Bool → Settings → Tables → Pens → SeenLogs
seen_logs tells s tables pens = record { tells = tells; settings = s; tables = tables; pens = pens }

-- the entries are those of the store's log after the position, and the note has seen them
pub record IsRestOf (logs : SeenLogs) (at : StoreName) (low : ℕ) (entries : List Entry) (note : View) : Type 0 where
  pub entries_are : WhereTold logs.tells (entries ≡ drop low (logs.tables at).log)
  pub seen : IsSeen logs.pens at.shard note
  pub told_is : note.log.told ≡ logs.tells
  pub begins : WhereTold logs.tells (Begins (logs.tables at).log note.entries)

-- the leader or follower is the configuration's of that name, and has marked nothing that its region's store hasn't
pub record MayCatchUp (logs : SeenLogs) (name : NodeName) (n : Node) : Type 0 where
  pub configured : IsConfiguredCache logs.settings name
  pub node : IsNodeOf logs.settings logs.pens name n
  pub reached : WhereTold logs.tells (HasReached logs.tables (region_of name) n)
  pub past : WhereTold logs.tells (IsPastCuts logs.tables (region_of name) n)

-- the node is still the one of that name, its asks go on, and it has processed some more
pub record NodeGoesOn (logs : SeenLogs) (name : NodeName) (old new : Node) : Type 0 where
  pub may : MayCatchUp logs name new
  pub asks : AsksGoOn old.asks new.asks
  pub on : ProcessesOn logs.settings (region_tables logs.tells logs.tables (region_of name)) old new

-- a leader or follower, seen as a node and refills, goes on: its node has processed some more, and its name and refills stay
pub record CacheGoesOn {N : Type 0} (node : N → Node) (refills : N → List Refill) (logs : SeenLogs) (old new : Named N) : Type 0 where
  pub name_is : new.name ≡ old.name
  pub goes : NodeGoesOn logs old.name (node old.node) (node new.node)
  pub rest : refills new.node ≡ refills old.node

-- the node has processed all that its region's stores of the first shards have, so many, of those that it serves, and nothing ahead
pub record IsAtFirstStores (tables : Tables) (region count : ℕ) (node : Node) : Type 0 where
  pub ends : (shard : ℕ) (t : ServedShard) → shard < count → served_at shard node.served ≡ Some t → t.marks ≡ marks (store_length tables region shard) []

-- the node has processed all that the store has, where it serves its shard, and nothing ahead. One that has processed what the stores of the shards below
-- have has then processed what this shard's store has too
pub record ReachesStore (tables : Tables) (at : StoreName) (old new : Node) : Type 0 where
  pub there : (t : ServedShard) → served_at at.shard new.served ≡ Some t → t.marks ≡ marks (store_length tables at.region at.shard) []
  pub next : IsAtFirstStores tables at.region at.shard old → IsAtFirstStores tables at.region (at.shard + 1) new

-- ---- several nodes on the way

-- each may catch up
abbrev pub AreCaches : {N : Type 0} → (N → Node) → SeenLogs → List (Named N) → Type 0
AreCaches {N} node logs caches = (place : ℕ) (cache : Named N) → slice_get caches place ≡ Some cache → MayCatchUp logs cache.name (node cache.node)

-- the leader or follower has gone on, where it is its turn, or else stays as it is
pub record GoesInTurn {N : Type 0} (node : N → Node) (refills : N → List Refill) (logs : SeenLogs) (turn : Bool) (old new : Named N) : Type 0 where
  pub goes : CacheGoesOn node refills logs old new
  pub same : turn ≡ false → new ≡ old

-- a node whose turn it is has caught up
pub record CatchesInTurn {N : Type 0} (node : N → Node) (s : Settings) (tables : Tables) (turn : Bool) (old new : Named N) : Type 0 where
  pub caught : turn ≡ true → CatchesUp s tables (region_of old.name) (node old.node) (node new.node)

-- each stands where it stood, and has gone on, where it is its turn
pub record CachesGoOn {N : Type 0} (node : N → Node) (refills : N → List Refill) (logs : SeenLogs) (turn : NodeName → Bool) (old new : List (Named N))
    : Type 0 where
  pub names : node_names new ≡ node_names old
  pub each : (place : ℕ) (to : Named N) → slice_get new place ≡ Some to
      → (from : Named N) × (slice_get old place ≡ Some from) × GoesInTurn node refills logs (turn from.name) from to

-- each whose turn it is has caught up
pub record HaveCaughtUp {N : Type 0} (node : N → Node) (s : Settings) (tables : Tables) (turn : NodeName → Bool) (old new : List (Named N))
    : Type 0 where
  pub each : (place : ℕ) (from to : Named N) → slice_get old place ≡ Some from → slice_get new place ≡ Some to
      → CatchesInTurn node s tables (turn from.name) from to
