-- What a store commits: the entry of a write or of a merge, with its job; and what it answers where nothing is to be committed.
use Rattle.std.specs.Prelude.{ℕ, ◌≡◌, ◌≤◌, ◌<◌, true, false, Some, IfSome, IsSomeAnd, ⊤}
use Rattle.tao_base.specs.EdgeTypes.{EdgeTypes}
use Rattle.tao_base.specs.declared.entry.Entry.{Entry}
use Rattle.tao_base.specs.declared.write.Write.{Write}
use Rattle.graph_model.specs.Log.{entry_at}
use Rattle.shard_log.specs.View.{View, most_entries}
use Rattle.write_model.specs.Writes.{FitsWrite}
use Rattle.tao_keeper.specs.Given.{HaveSmallStamps, IsGivenJob}
use Rattle.tao_keeper.specs.Table.{IsJobAt, Table}
use Rattle.tao_keeper.specs.declared.keeper.Commit.{Commit}
use Rattle.write_touches.specs.FarJobs.{job_for}
use Rattle.shard_tables.specs.StoreView.{Store}
use Rattle.shard_tables.specs.Stores.{IsFullFor, length_of}
use Rattle.shard_tables.specs.declared.refusal.StoreRefusal.{StoreRefusal}
use Rattle.shard_tables.specs.declared.refusal.StoreRefusal.TheVariants.{KeeperFault, LogFull, ShardFull, StampFull, TooOld, SeqReused, OutOfMemory}
use Rattle.shard_tables.specs.declared.writes.Wrote.{Wrote}

-- a keeper takes the commit: the log has room, and the job is one of the entry
pub record CanCommit (store : Store) (commit : Commit) : Type 0 where
  pub room : length_of store < most_entries
  pub stamps : HaveSmallStamps commit.entry.touches
  pub job : IfSome commit.job (λ j. j.position ≡ commit.entry.position)
  pub given : IfSome commit.job IsGivenJob

-- the job that is committed is what the entry owes to another shard
abbrev pub OwesJob : EdgeTypes → Commit → Type 0
OwesJob types commit = commit.job ≡ job_for types commit.entry

-- the answer is that of a call that committed this entry and job, and no retry's
pub record IsOfCommit (commit : Commit) (wrote : Wrote) : Type 0 where
  pub entry : wrote.entry ≡ Some commit.entry
  pub new : wrote.retry ≡ false
  pub job : wrote.job ≡ commit.job

-- nothing is committed, since the store's log is full, or since there was no memory
abbrev pub HasNoCommit : Store → StoreRefusal → Type 0
HasNoCommit store (LogFull count) = IsFullFor store (LogFull count)
HasNoCommit store OutOfMemory = ⊤
HasNoCommit store KeeperFault = ⊥
HasNoCommit store (ShardFull serial) = ⊥
HasNoCommit store (StampFull number) = ⊥
HasNoCommit store (TooOld cut position) = ⊥
HasNoCommit store (SeqReused position) = ⊥

-- a write whose origin stands at the position is refused, since the entry there is old, or live and one that it could not have made
abbrev pub IsOtherWrite : Table → ℕ → Write → StoreRefusal → Type 0
IsOtherWrite table position write (TooOld cut at) = (cut ≡ table.cut) × (at ≡ position) × (position ≤ table.cut)
IsOtherWrite table position write (SeqReused at) =
    (at ≡ position) × (table.cut < position) × IfSome (entry_at table.log position) (λ e. ¬ FitsWrite e write)
IsOtherWrite table position write KeeperFault = ⊤
IsOtherWrite table position write OutOfMemory = ⊤
IsOtherWrite table position write (LogFull count) = ⊥
IsOtherWrite table position write (ShardFull serial) = ⊥
IsOtherWrite table position write (StampFull number) = ⊥

-- the entry is the live one at the position
pub record IsLiveEntry (table : Table) (position : ℕ) (entry : Entry) : Type 0 where
  pub live : table.cut < position
  pub stands : entry_at table.log position ≡ Some entry

-- the answer has the live entry at the position, with the job that it has open
pub record HasEntryAt (table : Table) (position : ℕ) (wrote : Wrote) : Type 0 where
  pub live : table.cut < position
  pub entry_is : wrote.entry ≡ entry_at table.log position
  pub job_is : IsJobAt table.jobs position wrote.job

-- a write that was made before is answered with an entry that it could have made, and with this note
pub record IsRetried (write : Write) (note : View) (wrote : Wrote) : Type 0 where
  pub entry : IsSomeAnd wrote.entry (λ e. FitsWrite e write)
  pub retry : wrote.retry ≡ true
  pub given : IfSome wrote.job IsGivenJob
  pub note_is : wrote.note ≡ note
