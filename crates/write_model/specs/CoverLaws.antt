-- Laws of covered stores: each step of writes, merges and jobs keeps them sound and covered, and where no job is left open every edge is paired.
use Rattle.std.specs.Prelude.{ℕ, List, [], ◌∷◌, ◌++◌, length, Contains, Some, None, IsTrue, ◌≡◌, ◌≤◌, ◌<◌}
use Rattle.tao_base.specs.EdgeTypes.{EdgeTypes, InversesMatch}
use Rattle.tao_base.specs.Ids.{shard_of}
use Rattle.tao_base.specs.declared.entry.Entry.{Entry}
use Rattle.write_model.specs.Machine.{ArePaired, ClientWrite, Settles}
use Rattle.write_model.specs.MergeLaws.{IsMergeable}
use Rattle.write_model.specs.Merges.{HasJob, JobSource, Stores, job_of, log_of}
use Rattle.graph_model.specs.Log.{entry_at}
use Rattle.graph_model.specs.Soundness.{EdgeUpdate, is_client}
use Rattle.write_model.specs.Steps.{AllRest, AreSoundAndCovered, CommitsWithJob, EndsJob, HaveNoJobs, IsJobOf, IsNextJob, IsOwed}
use Rattle.write_model.specs.Steps.{MergesJob, Settling, WorksOffAll}
use Rattle.write_model.specs.WriteLaws.{IsAdmitted}

-- stores without entries and jobs are sound and covered, where no shard's epoch is past the last one
pub record EmptyStoresAreKept : Type 0 where
  pub kept : (types : EdgeTypes) (stores : Stores) → ((shard : ℕ) → log_of stores.logs shard ≡ []) → HaveNoJobs stores
      → ((shard : ℕ) → stores.epochs.of shard ≤ stores.epochs.last) → AreSoundAndCovered types stores

-- a commit with its job keeps the stores sound and covered
pub record CommitsKeep : Type 0 where
  pub keep : (types : EdgeTypes) (old new : Stores) (w : ClientWrite) (e : Entry)
      → AreSoundAndCovered types old → IsTrue (is_client w.origin) → IsAdmitted types w.shard (log_of old.logs w.shard) w.origin w.asked
      → CommitsWithJob types old new w e → AreSoundAndCovered types new
  pub stands : (types : EdgeTypes) (old new : Stores) (w : ClientWrite) (e : Entry)
      → AreSoundAndCovered types old → IsTrue (is_client w.origin) → IsAdmitted types w.shard (log_of old.logs w.shard) w.origin w.asked
      → CommitsWithJob types old new w e → entry_at (log_of new.logs w.shard) e.position ≡ Some e

-- a merge keeps the stores sound and covered, and leaves all of the job there
pub record MergesKeep : Type 0 where
  pub keep : (types : EdgeTypes) (old new : Stores) (owed : JobSource) → InversesMatch types → AreSoundAndCovered types old
      → MergesJob types old new owed → AreSoundAndCovered types new
  pub done : (types : EdgeTypes) (old new : Stores) (owed : JobSource) → InversesMatch types → AreSoundAndCovered types old
      → MergesJob types old new owed → IsOwed types new owed × HasJob types (log_of new.logs owed.other) owed.entry

-- the end of a job whose records are all there keeps the stores sound and covered
pub record EndsKeep : Type 0 where
  pub keep : (types : EdgeTypes) (old new : Stores) (owed : JobSource) → AreSoundAndCovered types old → EndsJob types old new owed
      → AreSoundAndCovered types new

-- an open job has a record, and each of its records says where it may be merged
pub record OpenJobsAreOwed : Type 0 where
  pub some : (types : EdgeTypes) (stores : Stores) (shard position : ℕ) (us : List EdgeUpdate) → AreSoundAndCovered types stores
      → stores.job shard position ≡ Some us → 0 < length us
  pub owed : (types : EdgeTypes) (stores : Stores) (shard position : ℕ) (us : List EdgeUpdate) (u : EdgeUpdate) → AreSoundAndCovered types stores
      → stores.job shard position ≡ Some us → Contains us u → (by : JobSource) × IsJobOf types stores shard position us by × (by.other ≡ shard_of u.0)
  -- so does each record of an entry that stands, whether its job is still open or not
  pub owes : (types : EdgeTypes) (stores : Stores) (shard position : ℕ) (e : Entry) (u : EdgeUpdate) → AreSoundAndCovered types stores
      → entry_at (log_of stores.logs shard) position ≡ Some e → Contains (job_of types e) u
      → IsOwed types stores (record { shard = shard; epoch = stores.epochs.of shard; entry = e; other = shard_of u.0 })
  pub mergeable : (types : EdgeTypes) (stores : Stores) (owed : JobSource) → InversesMatch types → AreSoundAndCovered types stores
      → IsOwed types stores owed → 0 < length (job_of types owed.entry) → IsMergeable types (log_of stores.logs owed.other) owed
  -- a job that isn't open is there
  pub closed : (types : EdgeTypes) (stores : Stores) (owed : JobSource) → AreSoundAndCovered types stores → IsOwed types stores owed
      → stores.job owed.shard owed.entry.position ≡ None → HasJob types (log_of stores.logs owed.other) owed.entry
  pub within : (types : EdgeTypes) (stores : Stores) (shard position : ℕ) (us : List EdgeUpdate) → AreSoundAndCovered types stores
      → stores.job shard position ≡ Some us → shard < length stores.logs

-- where no job is open every edge is paired, and stays so, with all logs as they are, until the next commit
pub record NoJobsArePaired : Type 0 where
  pub paired : (types : EdgeTypes) (stores : Stores) → InversesMatch types → AreSoundAndCovered types stores → HaveNoJobs stores → ArePaired types stores.logs
  pub stays : (types : EdgeTypes) (old : Stores) (later : List Stores) → InversesMatch types → AreSoundAndCovered types old → HaveNoJobs old
      → WorksOffAll types old later → AllRest old later

-- merging and ending the jobs in order, each shard's first one after another, is a settle
pub record SettlesInOrder : Type 0 where
  pub begins : (types : EdgeTypes) (start : Stores) → Settling types start start []
  -- one more job
  pub goes_on : (types : EdgeTypes) (start now mid new : Stores) (jobs : List JobSource) (owed : JobSource) → InversesMatch types → AreSoundAndCovered types now
      → Settling types start now jobs → IsNextJob types now owed → MergesJob types now mid owed → EndsJob types mid new owed
      → Settling types start new (jobs ++ owed ∷ [])
  -- it may stop before a job, or after it was merged
  pub stops : (types : EdgeTypes) (start now : Stores) (jobs : List JobSource) → Settling types start now jobs → Settles types start now.logs
  pub stops_within : (types : EdgeTypes) (start now mid : Stores) (jobs : List JobSource) (owed : JobSource)
      → Settling types start now jobs → IsNextJob types now owed → MergesJob types now mid owed → Settles types start mid.logs
  -- where no configured shard has an open job, none is open
  pub ends : (types : EdgeTypes) (now : Stores) → AreSoundAndCovered types now
      → ((shard position : ℕ) → shard < length now.logs → now.job shard position ≡ None) → HaveNoJobs now
