-- What a store answers of jobs: the one that a write opens, the one that a write made before still has, and what a merge does.
use Rattle.std.specs.Prelude.{ℕ, ◌+◌, ◌<◌, ◌≤◌, ◌≡◌, Bool, true, false, List, length, Option, Some, None, IfSome, IsSome, Result, Ok, Err, ⊤}
use Rattle.tao_base.specs.EdgeTypes.{EdgeTypes}
use Rattle.tao_base.specs.declared.entry.Entry.{Entry}
use Rattle.tao_base.specs.declared.entry.Kind.TheVariants.{Merge as Merged}
use Rattle.tao_base.specs.declared.entry.Origin.TheVariants.{Merge}
use Rattle.tao_base.specs.declared.entry.Touch.{Touch}
use Rattle.graph_model.specs.Log.{entry_at}
use Rattle.write_model.specs.Merges.{merge_of}
use Rattle.graph_model.specs.Soundness.{EdgeUpdate}
use Rattle.tao_keeper.specs.Table.{IsJobAt, Table}
use Rattle.tao_keeper.specs.declared.jobs.Job.{Job}
use Rattle.write_touches.specs.FarJobs.{job_for}
use Rattle.shard_tables.specs.declared.refusal.StoreRefusal.{StoreRefusal}
use Rattle.shard_tables.specs.declared.refusal.StoreRefusal.TheVariants.{KeeperFault, LogFull, ShardFull, StampFull, TooOld, SeqReused, OutOfMemory}
use Rattle.shard_tables.specs.declared.writes.Wrote.{Wrote}

-- the job in the answer of a write that is new: that of its entry
abbrev pub OpensJob : EdgeTypes → Bool → Option Entry → Option Job → Type 0
OpensJob types false (Some e) job = job ≡ job_for types e
OpensJob types false None job = job ≡ None
OpensJob types true entry job = ⊤

-- the open job of the entry, which stands in the log; none where none is open
pub record HasOpenJob (table : Table) (e : Entry) (job : Option Job) : Type 0 where
  pub position : ℕ
  pub stands : entry_at table.log position ≡ Some e
  pub job_is : IsJobAt table.jobs position job

-- the job in the answer of a write that was made before
abbrev pub FindsJob : Table → Bool → Option Entry → Option Job → Type 0
FindsJob table true (Some e) job = HasOpenJob table e job
FindsJob table true None job = ⊥
FindsJob table false entry job = ⊤

-- the job that is opened with the entry that was added, where one was
abbrev pub job_with : EdgeTypes → Option Entry → Option Job
job_with types None = None
job_with types (Some e) = job_for types e

-- a merge that is asked of a log: of so many entries at most, of a job of this other shard
pub record AskedMerge : Type 0 where
  pub most : ℕ
  pub log : List Entry
  pub from : ℕ
  pub job : Job

-- the merge that is asked of a log: of so many entries at most, of a job of another shard
abbrev pub asked_merge : ℕ → List Entry → ℕ → Job → AskedMerge
asked_merge most log from job = record { most = most; log = log; from = from; job = job }

-- what the answer of a merge says of the log before it, which may have so many entries at most
abbrev pub MergesAs : ℕ → List Entry → ℕ → ℕ → List EdgeUpdate → Result Wrote StoreRefusal → Type 0
MergesAs most log from position us (Ok wrote) = (wrote.entry ≡ merge_of log from position us) × IfSome wrote.entry (λ e. length log < most)
MergesAs most log from position us (Err (LogFull count)) = IsSome (merge_of log from position us) × (most ≤ length log) × (count ≡ length log)
MergesAs most log from position us (Err KeeperFault) = ⊤
MergesAs most log from position us (Err OutOfMemory) = ⊤
MergesAs most log from position us (Err (TooOld cut at)) = ⊥
MergesAs most log from position us (Err (SeqReused at)) = ⊥
MergesAs most log from position us (Err (ShardFull serial)) = ⊥
MergesAs most log from position us (Err (StampFull number)) = ⊥

-- a merge is refused for a failure of the keeper, as out of memory or for a full log alone
abbrev pub IsOfMerges : StoreRefusal → Type 0
IsOfMerges KeeperFault = ⊤
IsOfMerges OutOfMemory = ⊤
IsOfMerges (LogFull count) = ⊤
IsOfMerges (TooOld cut at) = ⊥
IsOfMerges (SeqReused at) = ⊥
IsOfMerges (ShardFull serial) = ⊥
IsOfMerges (StampFull number) = ⊥

-- the entry that merges by these touches, after so many entries
abbrev pub made_merge : ℕ → ℕ → ℕ → List Touch → Entry
made_merge n from position ts = record { position = n + 1; kind = Merged; origin = Merge from position; touches = ts }
