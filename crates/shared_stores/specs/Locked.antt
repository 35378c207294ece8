-- A store under its lock, and what is known of it whenever that lock is free.
use Rattle.std.specs.Prelude.{ℕ, ◌≡◌, ◌≤◌, ◌==◌, if◌then◌else◌, Bool, List, [], Some, length, slice_get}
use Rattle.std.specs.Option.{option_map_or}
use Rattle.node_stages.specs.core_model.Stores.{IsStoreAt, store_place}
use Rattle.graph_model.specs.Soundness.{IsSoundOf}
use Rattle.graph_model.specs.Told.{WhereTold}
use Rattle.locked_model.specs.Locked.{IsKept, Knowledge}
use Rattle.log_names.specs.Names.{IsOfLog, LogNames}
use Rattle.shard_log.specs.View.{Begins, View}
use Rattle.shard_tables.specs.StoreView.{Store}
use Rattle.shard_tables.specs.declared.store.StoreRole.TheVariants.{Master, Slave}
use Rattle.tao_base.specs.declared.entry.Entry.{Entry}
use Rattle.tao_keeper.specs.Table.{Table, Tables}
use Rattle.tao_schema.specs.Schema.{types_of}
use Rattle.write_model.specs.Merges.{HasItsJobs}
use Rattle.shared_stores.specs.Making.{Making}

-- a store, the tables that its keeper tells, and what its notes have seen of the shards' logs, one note a shard, in order. A slave needs none
pub record Locked : Type 0 where
  pub store : Store
  pub told : Tables
  pub notes : List View

-- a store, with the tables that its keeper tells, and what its notes have seen
abbrev pub locked : Store → Tables → List View → Locked
locked store told notes = record { store = store; told = told; notes = notes }

-- the shard of the store
abbrev pub shard_in : Locked → ℕ
shard_in l = l.store.name.shard

-- what the keeper tells of the store
abbrev pub table_in : Locked → Table
table_in l = l.told l.store.name

-- ---- what a store knows

-- what notes have seen of a shard's log: nothing without one
abbrev pub entries_seen : List View → ℕ → List Entry
entries_seen notes shard = option_map_or (λ v. v.entries) (slice_get notes shard) []

-- the logs as the store knows them: its own, and of each other shard's what its note has seen
abbrev pub log_known : Locked → ℕ → List Entry
log_known l shard = if shard == shard_in l then (table_in l).log else entries_seen l.notes shard

-- what the store knows of the logs, and of its jobs. No store was ever promoted
abbrev pub known : Making → Locked → Knowledge
known m l = record { log = log_known l; epoch = λ shard. 0; job = (table_in l).jobs; begun = m.begun (shard_in l) }

-- ---- what its lock keeps

-- the note is of its shard's log, which is told where the keeper's tables are
pub record IsNoteOf (tells : Bool) (log : LogNames) (shard : ℕ) (note : View) : Type 0 where
  pub log_is : IsOfLog log shard note
  pub told_is : note.log.told ≡ tells

-- each note is of its shard's log
abbrev pub AreNotesOf : Bool → LogNames → List View → Type 0
AreNotesOf tells log notes = (shard : ℕ) (note : View) → slice_get notes shard ≡ Some note → IsNoteOf tells log shard note

-- each note has seen at least what its shard's log began with
abbrev pub HaveBegun : Making → List View → Type 0
HaveBegun m notes = (shard : ℕ) (note : View) → slice_get notes shard ≡ Some note → m.begun shard ≤ length note.entries

-- a shard's master: it has seen its keeper's log, which was not cut since the cluster was made; all that it has seen is sound, and over that it is covered
pub record KeepsMaster (m : Making) (l : Locked) : Type 0 where
  pub whole : l.store.view.entries ≡ (table_in l).log
  pub cut_is : (table_in l).cut ≡ m.cut (shard_in l)
  pub kept : IsKept (types_of m.settings.schema) (shard_in l) (known m l)
  pub begun : HaveBegun m l.notes

-- a slave: it has seen its keeper's log, and maybe more of its master's; its log is sound, and each of its jobs is that of an entry of it
pub record KeepsSlave (m : Making) (l : Locked) : Type 0 where
  pub begins : Begins (table_in l).log l.store.view.entries
  pub sound : IsSoundOf (types_of m.settings.schema) (shard_in l) (table_in l).log
  pub jobs : HasItsJobs (types_of m.settings.schema) (table_in l).log (table_in l).jobs

-- the store is one of the cluster's, and has seen its shard's log; where its keeper's tables are told, its log has at least the entries that were old when
-- the cluster was made, and it keeps what a store of its role does
pub record IsSharedStore (tells : Bool) (m : Making) (log : LogNames) (l : Locked) : Type 0 where
  pub is : IsStoreAt m.settings (store_place m.settings l.store.name) l.store
  pub log_is : IsOfLog log (shard_in l) l.store.view
  pub told_is : l.store.view.log.told ≡ tells
  pub notes : AreNotesOf tells log l.notes
  pub past_cut : WhereTold tells (m.cut (shard_in l) ≤ length (table_in l).log)
  pub master : WhereTold tells (l.store.role ≡ Master → KeepsMaster m l)
  pub slave : WhereTold tells (l.store.role ≡ Slave → KeepsSlave m l)
