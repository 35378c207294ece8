-- What the stages of a write answer under their locks.
use Rattle.std.specs.Prelude.{ℕ, ◌≡◌, ◌≢◌, ◌≤◌, Bool, false, List, [], Option, None, Some, IfSome, length, take, ⊤}
use Rattle.core_model.specs.Asked.{AuthoredWrite}
use Rattle.core_model.specs.Jobs.{far_shard}
use Rattle.graph_model.specs.Log.{entry_at}
use Rattle.graph_model.specs.Told.{WhereTold}
use Rattle.log_names.specs.Names.{IsOfLog, LogNames}
use Rattle.replies.specs.declared.calls.ScheduledWhy.{ScheduledWhy}
use Rattle.replies.specs.declared.calls.ScheduledWhy.TheVariants.{LinkFault, KeeperFault as KeeperFailed, LogFull as FarLogFull, NoServer, Memory as NoMemory}
use Rattle.replies.specs.declared.refusals.Refusal.{Refusal}
use Rattle.replies.specs.declared.refusals.Refusal.TheVariants.{Store, Memory}
use Rattle.replies.specs.declared.refusals.StoreRefused.TheVariants.{SeqReused, TooOld, ShardFull, StampFull, LogFull, KeeperFault}
use Rattle.shard_log.specs.View.{Grows, View}
use Rattle.shard_tables.specs.Written.{AnswersAs, AskedWrite, HasEntry, IsLogFull, IsReused, IsShardFull, IsStampFull, IsTooOld, LiesOn, StandsIn}
use Rattle.shard_tables.specs.declared.writes.Wrote.{Wrote}
use Rattle.shared_stores.specs.Asked.{asked_of_seen}
use Rattle.shared_stores.specs.Making.{Making}
use Rattle.shared_stores.specs.Owed.{IsOwed, owed_by}
use Rattle.tao_base.specs.Writes.{write_shard}
use Rattle.tao_base.specs.declared.entry.Entry.{Entry}
use Rattle.tao_base.specs.declared.entry.Origin.{Origin}
use Rattle.tao_keeper.specs.declared.jobs.Job.{Job}
use Rattle.tao_schema.specs.Schema.{types_of}
use Rattle.write_model.specs.Merges.{job_of, merge_of}
use Rattle.write_model.specs.Writes.{FitsWrite}

-- ---- the commit

-- the entry stands in the log at its own position, and is the only one of its origin
pub record StandsOnce (log : List Entry) (origin : Origin) (entry : Entry) : Type 0 where
  pub stands : entry_at log entry.position ≡ Some entry
  pub origin_is : entry.origin ≡ origin
  pub once : (position : ℕ) (other : Entry) → entry_at log position ≡ Some other → other.origin ≡ origin → position ≡ entry.position

-- a write was answered as it is on a beginning of the log that is no shorter than what was seen before
pub record AnswersSince (m : Making) (call : AuthoredWrite) (seen log : List Entry) (wrote : Wrote) : Type 0 where
  pub n : ℕ
  pub since : length seen ≤ n
  pub answers : AnswersAs (asked_of_seen m (write_shard call.write) (take n log) call) wrote.retry wrote.entry

-- what a client's write was answered at its store, of which this was seen before: its note has seen the entry, which fits the write and is the only one
-- of its origin. A job that is answered is owed, where its records lie on another shard; a new entry whose write answers with none owes nothing
pub record CommitsIn (tells : Bool) (m : Making) (log : LogNames) (call : AuthoredWrite) (seen : View) (wrote : Wrote) : Type 0 where
  pub log_is : IsOfLog log (write_shard call.write) wrote.note
  pub told_is : wrote.note.log.told ≡ tells
  pub grows : Grows seen wrote.note
  pub answers : WhereTold tells (AnswersSince m call seen.entries wrote.note.entries wrote)
  pub once : WhereTold tells (IfSome wrote.entry (StandsOnce wrote.note.entries call.origin))
  pub stands : IfSome wrote.entry (StandsIn wrote.note)
  pub lies : IfSome wrote.entry (LiesOn wrote.note (write_shard call.write))
  pub fits : IfSome wrote.entry (λ e. FitsWrite e call.write)
  pub has : HasEntry call.write wrote.entry
  pub owes : IfSome wrote.job (λ job. IfSome wrote.entry (λ e. far_shard job ≢ write_shard call.write
      → IsOwed tells (types_of m.settings.schema) (owed_by (write_shard call.write) job e)))
  pub paid : wrote.retry ≡ false → wrote.job ≡ None → IfSome wrote.entry (λ e. job_of (types_of m.settings.schema) e ≡ [])

-- why a write is refused where it is committed: for its origin, a last number or a full log, as the one says of what was seen of the log; since keepers may
-- fail, as the other one does; or for want of memory, with nothing written. For no other cause
abbrev pub RefusesSeen : ((AskedWrite → Type 0) → Type 0) → Type 0 → Refusal → Type 0
RefusesSeen Seen fails (Store (TooOld cut position)) = Seen (λ asked. IsTooOld asked cut position)
RefusesSeen Seen fails (Store (SeqReused position)) = Seen (λ asked. IsReused asked position)
RefusesSeen Seen fails (Store (ShardFull serial)) = Seen (λ asked. IsShardFull asked serial)
RefusesSeen Seen fails (Store (StampFull number)) = Seen (λ asked. IsStampFull asked number)
RefusesSeen Seen fails (Store (LogFull count)) = Seen (λ asked. IsLogFull asked count)
RefusesSeen Seen fails (Store (KeeperFault count)) = fails
RefusesSeen Seen fails (Memory position) = position ≡ 0
RefusesSeen Seen fails other = ⊥

-- it is so of a write that is asked of what was seen of a log, where that is told
abbrev pub SeenWhereTold : Bool → AskedWrite → (AskedWrite → Type 0) → Type 0
SeenWhereTold tells asked P = WhereTold tells (P asked)

-- ---- its job

-- a merge of a job of the shard wrote this entry, or nothing: what there was to write on a beginning of the log that is no shorter than what was seen before
pub record MergesSince (from : ℕ) (job : Job) (seen log : List Entry) (entry : Option Entry) : Type 0 where
  pub n : ℕ
  pub since : length seen ≤ n
  pub entry_is : entry ≡ merge_of (take n log) from job.position job.edges

-- why a job isn't merged, or not ended, where keepers may fail or not, and this was seen of the log where it is owed
abbrev pub StaysOpenFor : Type 0 → ℕ → Option View → ScheduledWhy → Type 0
StaysOpenFor fails most seen KeeperFailed = fails
StaysOpenFor fails most (Some view) FarLogFull = WhereTold view.log.told (most ≤ length view.entries)
StaysOpenFor fails most None FarLogFull = ⊥
StaysOpenFor fails most seen NoMemory = ⊤
StaysOpenFor fails most seen LinkFault = ⊥
StaysOpenFor fails most seen NoServer = ⊥
