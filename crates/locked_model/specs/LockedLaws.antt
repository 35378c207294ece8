-- Laws of locked stores: each step keeps what a store's lock keeps, and together the locks keep the stores covered.
use Rattle.std.specs.Prelude.{ℕ, ◌≡◌, ◌≢◌, IsTrue, Some}
use Rattle.tao_base.specs.EdgeTypes.{EdgeTypes, InversesMatch}
use Rattle.tao_base.specs.declared.entry.Entry.{Entry}
use Rattle.tao_base.specs.declared.entry.Origin.{Origin}
use Rattle.tao_base.specs.declared.write.Write.{Write}
use Rattle.graph_model.specs.Soundness.{is_client}
use Rattle.write_model.specs.Machine.{ArePaired}
use Rattle.write_model.specs.MergeLaws.{IsNewOrDone}
use Rattle.write_model.specs.Merges.{HasJob, IsCovered, JobSource, Stores, job_of, log_of, merge_entry}
use Rattle.write_model.specs.Steps.{AreSound, AreSoundAndCovered, HaveNoJobs, opened_job}
use Rattle.write_model.specs.WriteLaws.{IsAdmitted}
use Rattle.write_model.specs.Writes.{forward_entry}
use Rattle.locked_model.specs.Locked.{AreLocked, EndsOwn, GainsOwn, IsKept, JobTurns, Knowledge, LearnsWhole, SeeEachOther, SeesOwed, begun_with}

-- sound and covered stores may be locked, each having seen all logs whole
pub record LocksBegin : Type 0 where
  pub begin : (types : EdgeTypes) (stores : Stores) → AreSoundAndCovered types stores → AreLocked types stores (begun_with stores)

-- a write commits its entry and opens its job, under its store's lock alone
pub record LockedWritesKeep : Type 0 where
  pub keep : (types : EdgeTypes) (shard : ℕ) (old new : Knowledge) (origin : Origin) (write : Write) (e : Entry) → IsKept types shard old
      → IsTrue (is_client origin) → IsAdmitted types shard (old.log shard) origin write
      → forward_entry types (old.epoch shard) (old.log shard) origin write ≡ Some e → GainsOwn old new shard e
      → JobTurns old new e.position (opened_job (job_of types e)) → IsKept types shard new

-- a job is merged at the store that its records lie on, under that store's lock, where the job's entry was seen
pub record LockedMergesKeep : Type 0 where
  pub may : (types : EdgeTypes) (k : Knowledge) (owed : JobSource) → IsKept types owed.other k → SeesOwed types k owed
      → IsNewOrDone types (k.log owed.other) owed
  pub keep : (types : EdgeTypes) (old new : Knowledge) (owed : JobSource) (m : Entry) → InversesMatch types → IsKept types owed.other old
      → SeesOwed types old owed → merge_entry types (old.log owed.other) owed ≡ Some m → GainsOwn old new owed.other m → new.job ≡ old.job
      → IsKept types owed.other new
  pub done : (types : EdgeTypes) (old new : Knowledge) (owed : JobSource) (m : Entry) → InversesMatch types → IsKept types owed.other old
      → SeesOwed types old owed → merge_entry types (old.log owed.other) owed ≡ Some m → GainsOwn old new owed.other m
      → HasJob types (new.log owed.other) owed.entry

-- a job is ended under its store's lock, where its records were seen
pub record LockedEndsKeep : Type 0 where
  pub keep : (types : EdgeTypes) (old new : Knowledge) (owed : JobSource) → IsKept types owed.shard old → EndsOwn types old new owed
      → IsKept types owed.shard new

-- a store learns the whole log of another one, while both locks are held
pub record LockedLearnsKeep : Type 0 where
  pub keep : (types : EdgeTypes) (s t : ℕ) (a b new : Knowledge) → InversesMatch types → s ≢ t → a.epoch ≡ b.epoch → IsKept types s a → IsKept types t b
      → SeeEachOther s t a b → LearnsWhole s a b new → IsKept types t new

-- all locks keep together that each shard's store is sound and covered over the logs as they are, and where no job is open every edge is paired
pub record LocksCover : Type 0 where
  pub sound : (types : EdgeTypes) (stores : Stores) (k : ℕ → Knowledge) → AreLocked types stores k → AreSound types stores.logs
  pub each : (types : EdgeTypes) (stores : Stores) (k : ℕ → Knowledge) → InversesMatch types → AreLocked types stores k
      → (s : ℕ) → IsCovered types (log_of stores.logs) stores.epochs.of (stores.job s) s
  pub paired : (types : EdgeTypes) (stores : Stores) (k : ℕ → Knowledge) → InversesMatch types → AreLocked types stores k → HaveNoJobs stores
      → ArePaired types stores.logs
