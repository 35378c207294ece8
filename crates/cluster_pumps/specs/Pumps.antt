-- What a pump answers.
use Rattle.std.specs.Prelude.{ℕ, ◌≡◌, ◌≤◌, ◌<◌, ◌==◌, Bool, false, IsTrue, MatchBool, Option, Some, None, Result, Ok, Err, ⊤, length}
use Rattle.core_model.specs.Fleet.{serves}
use Rattle.core_model.specs.Stores.{master_of}
use Rattle.counts.specs.Count.{Counted}
use Rattle.graph_model.specs.Told.{WhereTold}
use Rattle.log_names.specs.Names.{IsOfLog, LogNames}
use Rattle.node_name.specs.declared.NodeName.{NodeName}
use Rattle.node_name.specs.declared.NodeName.TheVariants.{Store as StoreName_, Leader, Follower}
use Rattle.shard_log.specs.View.{most_entries}
use Rattle.shard_tables.specs.Refusals.{IsOfReads}
use Rattle.shard_tables.specs.Written.{LiesOn, StandsIn}
use Rattle.shard_tables.specs.declared.refusal.StoreRefusal.{StoreRefusal}
use Rattle.shard_tables.specs.declared.refusal.StoreRefusal.TheVariants.{KeeperFault}
use Rattle.shared_stores.specs.Making.{Making}
use Rattle.tao_base.specs.declared.entry.Entry.{Entry}
use Rattle.topology.specs.Config.{Settings}
use Rattle.cluster_pumps.specs.Hands.{SeenHand}
use Rattle.cluster_pumps.specs.declared.pumping.Pumped.{Pumped}
use Rattle.cluster_pumps.specs.declared.pumping.Pumped.TheVariants.{Delivered, Empty, Failed}
use Rattle.cluster_pumps.specs.declared.streaming.Moved.{Moved}

-- ---- a step of a stream

-- the entry that was moved, or why none was
abbrev pub entry_of : Result (Option Moved) StoreRefusal → Result (Option Entry) StoreRefusal
entry_of (Ok (Some moved)) = Ok (Some moved.entry)
entry_of (Ok None) = Ok None
entry_of (Err refusal) = Err refusal

-- the note is of the shard's log and has seen the entry, all of whose keys lie on the shard
pub record IsSeenMove (log : LogNames) (shard : ℕ) (moved : Moved) : Type 0 where
  pub log_is : IsOfLog log shard moved.note
  pub stands : StandsIn moved.note moved.entry
  pub lies : LiesOn moved.note shard moved.entry
  pub few : length moved.note.entries ≤ most_entries

-- ---- a pump

-- the node is the store of its shard that is written
abbrev pub is_master : Settings → NodeName → Bool
is_master s (StoreName_ at) = at.region == master_of s at.shard
is_master s (Leader region index) = false
is_master s (Follower region tier index) = false

-- the node is a store that follows another
abbrev pub IsSlave : Settings → NodeName → Type 0
IsSlave s (StoreName_ at) = is_master s (StoreName_ at) ≡ false
IsSlave s (Leader region index) = ⊥
IsSlave s (Follower region tier index) = ⊥

-- an entry of a log may have the position
pub record IsPosition (position : ℕ) : Type 0 where
  pub some : 1 ≤ position
  pub few : position ≤ most_entries

-- a store has no items to drop
abbrev pub MayDrop : NodeName → ℕ → Type 0
MayDrop (StoreName_ at) dropped = dropped ≡ 0
MayDrop (Leader region index) dropped = ⊤
MayDrop (Follower region tier index) dropped = ⊤

-- what a node took, which is no master's store: of a shard that it serves, and where that shard's log is told, at a position that an entry may have
pub record IsDelivered (m : Making) (log : LogNames) (node : NodeName) (shard position dropped : ℕ) : Type 0 where
  pub takes : is_master m.settings node ≡ false
  pub here : shard < m.settings.shards
  pub serves : IsTrue (serves m.settings node shard)
  pub position_is : WhereTold (log shard).told (IsPosition position)
  pub dropped_is : MayDrop node dropped

-- something was delivered to the node
abbrev pub IsDelivery : Making → LogNames → NodeName → Pumped → Type 0
IsDelivery m log node (Delivered shard position dropped) = IsDelivered m log node shard position dropped
IsDelivery m log node Empty = ⊥
IsDelivery m log node (Failed refusal) = ⊥

-- there was nothing to take, and the hand counted that
pub record FindsNothing (old new : SeenHand) : Type 0 where
  pub rest : new ≡ record old { empties = new.empties }
  pub counted : Counted old.empties new.empties

-- a store refused the step of its stream, for a failure of a keeper only where these may fail
pub record FailsStream (s : Settings) (fails : Type 0) (node : NodeName) (refusal : StoreRefusal) : Type 0 where
  pub slave : IsSlave s node
  pub refused : IsOfReads refusal
  pub cause : refusal ≡ KeeperFault → fails

-- what a pump answers, by a hand that was so before and after it, where keepers may fail or not. A master's store has nothing to take
abbrev pub PumpsAs : Type 0 → Making → LogNames → SeenHand → SeenHand → Pumped → Type 0
PumpsAs fails m log old new (Delivered shard position dropped) = IsDelivered m log old.node shard position dropped × (new ≡ old)
PumpsAs fails m log old new Empty = MatchBool (is_master m.settings old.node) (new ≡ old) (FindsNothing old new)
PumpsAs fails m log old new (Failed refusal) = FailsStream m.settings fails old.node refusal × (new ≡ old)
