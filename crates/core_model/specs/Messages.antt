-- Messages of maintenance among the nodes of a core, and the refills that they queue.
use Rattle.std.specs.Prelude.{ℕ, ◌≡◌, ◌≤◌, ◌<◌, ◌++◌, IsTrue, List, [], ◌∷◌, Option, Some, None, filter, if◌then◌else◌}
use Rattle.std.specs.List.{AllByRecursion}
use Rattle.cache_items.specs.Delivered.{dropped_lists}
use Rattle.cache_items.specs.Node.{Node, caught_up, delivered, drop_count, met}
use Rattle.follower_cache.specs.Refills.{Queues}
use Rattle.follower_cache.specs.Seen.{FollowerState}
use Rattle.follower_cache.specs.declared.queue.Refill.{Refill}
use Rattle.graph_model.specs.Log.{version}
use Rattle.graph_model.specs.Told.{WhereTold}
use Rattle.maint_msg.specs.Maints.{IsMaint, SeenMaint}
use Rattle.node_name.specs.declared.NodeName.{NodeName}
use Rattle.node_name.specs.declared.NodeName.TheVariants.{Store as StoreName_, Leader, Follower}
use Rattle.shard_log.specs.View.{View}
use Rattle.tao_base.specs.EdgeTypes.{EdgeTypes}
use Rattle.tao_base.specs.Queries.{query_key, query_shard}
use Rattle.tao_base.specs.declared.entry.Entry.{Entry}
use Rattle.tao_keeper.specs.Table.{Tables}
use Rattle.topology.specs.Choices.{followers_in_turn, master_region, preferred_leader}
use Rattle.topology.specs.Config.{Settings}
use Rattle.topology.specs.States.{NodeStates, is_up}
use Rattle.core_model.specs.Fleet.{ChangesNode, Fleet, region_of, serves, serves_in_turn}
use Rattle.core_model.specs.Pens.{IsSeen, Pens, SeenRule}
use Rattle.core_model.specs.Stores.{store_length}

-- ---- messages

-- the node serves the message's shard, which is configured; what it names is in its note, and that is right
pub record IsRightMessage (s : Settings) (Seen : SeenRule) (name : NodeName) (m : SeenMaint) : Type 0 where
  pub here : m.shard < s.shards
  pub serves : IsTrue (serves s name m.shard)
  pub seen : Seen m.shard m.note
  pub names : IsMaint m

-- the message is for the node, which serves its shard, and what it names was seen of that shard's log
abbrev pub IsMessageFor : Settings → Pens → NodeName → SeenMaint → Type 0
IsMessageFor s pens name m = IsRightMessage s (IsSeen pens) name m

-- the store of the node's region has come to the position of the message
abbrev pub IsOfStore : Tables → NodeName → SeenMaint → Type 0
IsOfStore tables name m = m.position ≤ store_length tables (region_of name) m.shard

-- who is notified of an entry that the region's store took: of each tier the follower that serves the shard, where it is up
abbrev pub notified_of : NodeStates → ℕ → ℕ → List NodeName
notified_of states region shard = filter (is_up states) (followers_in_turn states.regions region 0 shard)

-- the leader that the master's region prefers, where it is up, which is told of an entry that another wrote: a repair or a stand-in
abbrev pub notified_besides : NodeStates → ℕ → List NodeName
notified_besides states shard = filter (is_up states) (preferred_leader states (master_region states shard) shard ∷ [])

-- who is notified of an entry of a shard that a leader wrote
abbrev pub notified_by : NodeStates → NodeName → ℕ → List NodeName
notified_by states leader shard = notified_of states (master_region states shard) shard
    ++ (if serves_in_turn states.regions leader shard then [] else notified_besides states shard)

-- ---- deliveries

-- a node processes a message: it drops so many items, those below the versions that the message names, raises its asks and marks the position
pub record Delivers (m : SeenMaint) (dropped : ℕ) (old new : Node) : Type 0 where
  pub dropped_is : dropped ≡ drop_count old.items m.keys
  pub node_is : new ≡ delivered m old

-- a follower processes a message, and queues a refill for each list that it drops
pub record DeliversThere (types : EdgeTypes) (m : SeenMaint) (dropped : ℕ) (old new : FollowerState) : Type 0 where
  pub node : Delivers m dropped old.node new.node
  pub refills : Queues types (dropped_lists old.node.items m.keys) old.refills new.refills

-- the leader or follower of that name processes the message, and nothing else of the core's nodes changes
abbrev pub DeliversAt : EdgeTypes → SeenMaint → ℕ → NodeName → Fleet → Fleet → Type 0
DeliversAt types m dropped (StoreName_ store) old new = ⊥
DeliversAt types m dropped (Leader region index) old new =
    ChangesNode (Leader region index) (Delivers m dropped) old.leaders new.leaders × (new ≡ record old { leaders = new.leaders })
DeliversAt types m dropped (Follower region tier index) old new =
    ChangesNode (Follower region tier index) (DeliversThere types m dropped) old.followers new.followers × (new ≡ record old { followers = new.followers })

-- a node meets a note of a shard's log, and processes entries of that log one after another
abbrev pub Processes : ℕ → List Entry → View → Node → Node → Type 0
Processes shard entries note old new = new ≡ caught_up shard entries (met shard note old)

-- ---- refills

-- the follower serves the shard of the refill, which is configured; where its log is told, it has come to the refill's floor
pub record IsRefillFor (s : Settings) (pens : Pens) (name : NodeName) (refill : Refill) : Type 0 where
  pub here : query_shard refill.query < s.shards
  pub serves : IsTrue (serves s name (query_shard refill.query))
  pub reached : WhereTold (pens (query_shard refill.query)).log.told (refill.floor ≤ version (pens (query_shard refill.query)).entries (query_key refill.query))

-- each of the refills can be asked for by the follower of that name
abbrev pub AreRefillsFor : Settings → Pens → NodeName → List Refill → Type 0
AreRefillsFor s pens name refills = AllByRecursion (IsRefillFor s pens name) refills

-- the oldest refill is taken out, where one waits
abbrev pub TakesRefill : Option Refill → FollowerState → FollowerState → Type 0
TakesRefill None old new = (old.refills ≡ []) × (new ≡ old)
TakesRefill (Some refill) old new = (old.refills ≡ refill ∷ new.refills) × (new ≡ record old { refills = new.refills })
