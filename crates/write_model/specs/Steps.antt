-- What the steps of writes, merges and jobs do to the stores of all shards.
use Rattle.std.specs.Prelude.{ℕ, List, [], ◌∷◌, All, AllPairs, Option, Some, None, ◌≡◌, ◌≢◌, ◌⊎◌, ◌<◌}
use Rattle.tao_base.specs.EdgeTypes.{EdgeTypes}
use Rattle.tao_base.specs.Ids.{shard_of}
use Rattle.tao_base.specs.declared.entry.Entry.{Entry}
use Rattle.write_model.specs.Machine.{ClientWrite, ComesBefore, Commits, IsFirstJob, IsOpenJob, MergeInTurn, MergesNews}
use Rattle.write_model.specs.Merges.{AreCovered, HasJob, JobSource, Stores, job_of, log_of}
use Rattle.graph_model.specs.Log.{entry_at}
use Rattle.graph_model.specs.Soundness.{EdgeUpdate, IsSoundOf}

-- each log is sound of its shard
abbrev pub AreSound : EdgeTypes → List (List Entry) → Type 0
AreSound types logs = (shard : ℕ) → IsSoundOf types shard (log_of logs shard)

-- the stores are sound and covered
pub record AreSoundAndCovered (types : EdgeTypes) (stores : Stores) : Type 0 where
  pub sound : AreSound types stores.logs
  pub covered : AreCovered types stores

-- no job is open
abbrev pub HaveNoJobs : Stores → Type 0
HaveNoJobs stores = (shard position : ℕ) → stores.job shard position ≡ None

-- no job changes
abbrev pub JobsStay : Stores → Stores → Type 0
JobsStay old new = (shard position : ℕ) → new.job shard position ≡ old.job shard position

-- the shard's job of the position becomes this, and no other changes
pub record JobBecomes (old new : Stores) (shard position : ℕ) (given : Option (List EdgeUpdate)) : Type 0 where
  pub here : new.job shard position ≡ given
  pub others : (s p : ℕ) → (s ≡ shard → p ≢ position) → new.job s p ≡ old.job s p

-- the job that is opened for these records: none where there are none
abbrev pub opened_job : List EdgeUpdate → Option (List EdgeUpdate)
opened_job [] = None
opened_job (u ∷ us) = Some (u ∷ us)

-- a write commits its entry and opens the job of it, in one step, in the epoch of its shard
pub record CommitsWithJob (types : EdgeTypes) (old new : Stores) (w : ClientWrite) (e : Entry) : Type 0 where
  pub epoch_is : w.epoch ≡ old.epochs.of w.shard
  pub commits : Commits types old.logs new.logs w e
  pub opens : JobBecomes old new w.shard e.position (opened_job (job_of types e))
  pub epochs : new.epochs ≡ old.epochs

-- an entry stands, in the epoch of its shard, and the records of its job lie on the other shard, whether that job is still open or not
pub record IsOwed (types : EdgeTypes) (stores : Stores) (owed : JobSource) : Type 0 where
  pub epoch_is : owed.epoch ≡ stores.epochs.of owed.shard
  pub stands : entry_at (log_of stores.logs owed.shard) owed.entry.position ≡ Some owed.entry
  pub there : All (λ u. shard_of u.0 ≡ owed.other) (job_of types owed.entry)

-- the job is merged at the other shard, where any of its records is news; no job is opened or ended
pub record MergesJob (types : EdgeTypes) (old new : Stores) (owed : JobSource) : Type 0 where
  pub owes : IsOwed types old owed
  pub merges : MergesNews types old.logs new.logs owed
  pub jobs : JobsStay old new
  pub epochs : new.epochs ≡ old.epochs

-- the job is ended, once all of its records are at the other shard
pub record EndsJob (types : EdgeTypes) (old new : Stores) (owed : JobSource) : Type 0 where
  pub owes : IsOwed types old owed
  pub done : HasJob types (log_of old.logs owed.other) owed.entry
  pub logs : new.logs ≡ old.logs
  pub ends : JobBecomes old new owed.shard owed.entry.position None
  pub epochs : new.epochs ≡ old.epochs

-- a job is merged, or one is ended: what a retry, a repair and a settle do after a write, and nothing else changes the stores between two commits
abbrev pub WorksOff : EdgeTypes → Stores → Stores → Type 0
WorksOff types old new = (owed : JobSource) × (MergesJob types old new owed ⊎ EndsJob types old new owed)

-- stores that follow one another, each from those before by the merge or the end of one job
abbrev pub WorksOffAll : EdgeTypes → Stores → List Stores → Type 0
WorksOffAll types old [] = Unit {0}
WorksOffAll types old (new ∷ later) = WorksOff types old new × WorksOffAll types new later

-- all logs are as they were, and no job is open
abbrev pub AllRest : Stores → List Stores → Type 0
AllRest old [] = Unit {0}
AllRest old (new ∷ later) = (new.logs ≡ old.logs) × HaveNoJobs new × AllRest old later

-- what an open job owes
pub record IsJobOf (types : EdgeTypes) (stores : Stores) (shard position : ℕ) (us : List EdgeUpdate) (owed : JobSource) : Type 0 where
  pub job : IsOpenJob types stores owed
  pub owes : IsOwed types stores owed
  pub shard_is : owed.shard ≡ shard
  pub position_is : owed.entry.position ≡ position
  pub records_are : us ≡ job_of types owed.entry

-- the shard's first job, where no lower shard has an open job
pub record IsNextJob (types : EdgeTypes) (stores : Stores) (owed : JobSource) : Type 0 where
  pub first : IsFirstJob types stores owed
  pub lower : (shard position : ℕ) → shard < owed.shard → stores.job shard position ≡ None

-- a settle under way: it merged and ended these jobs, in order; those that are left were open before, and come later
pub record Settling (types : EdgeTypes) (start now : Stores) (jobs : List JobSource) : Type 0 where
  pub open_jobs : All (IsOpenJob types start) jobs
  pub in_order : AllPairs ComesBefore jobs
  pub merges : MergeInTurn types start.logs now.logs jobs
  pub left : (owed : JobSource) → IsOpenJob types now owed → IsOpenJob types start owed × All (λ done. ComesBefore done owed) jobs
