-- Laws of promotions: each step keeps the stores sound and covered.
use Rattle.std.specs.Prelude.{ℕ, ◌≡◌, ◌<◌, ◌^◌, ◌++◌, List, Option, take, slice_set}
use Rattle.tao_base.specs.EdgeTypes.{EdgeTypes}
use Rattle.tao_base.specs.declared.entry.Entry.{Entry}
use Rattle.graph_model.specs.Soundness.{EdgeUpdate}
use Rattle.write_model.specs.Merges.{HasItsJobs, Stores, entries_ever, log_of}
use Rattle.write_model.specs.Steps.{AreSoundAndCovered}
use Rattle.promotion_model.specs.Promotion.{ChangesMaster, CutsBack, IsFresh, IsOwedAll, JobsAreCut, OpensJobs, Promotes, RaisesEpoch, StaysCovered}

-- an epoch may be raised while there ever were fewer entries than an epoch has numbers, and nothing of the new one was written yet
pub record RaisesKeep : Type 0 where
  pub keep : (types : EdgeTypes) (old new : Stores) (shard : ℕ) → AreSoundAndCovered types old → entries_ever old < 2 ^ 32 → RaisesEpoch old new shard
      → AreSoundAndCovered types new
  pub fresh : (types : EdgeTypes) (old new : Stores) (shard : ℕ) → AreSoundAndCovered types old → entries_ever old < 2 ^ 32 → RaisesEpoch old new shard
      → IsFresh new shard

-- jobs of entries may be opened again
pub record OpensKeep : Type 0 where
  pub keep : (types : EdgeTypes) (old new : Stores) → AreSoundAndCovered types old → OpensJobs types old new → AreSoundAndCovered types new
  pub fresh : (types : EdgeTypes) (old new : Stores) (shard : ℕ) → OpensJobs types old new → IsFresh old shard → IsFresh new shard

-- the log of a shard may be cut back where nothing of its epoch was written and all that is owed to it is open
pub record CutsKeep : Type 0 where
  pub keep : (types : EdgeTypes) (old new : Stores) (shard kept : ℕ) → AreSoundAndCovered types old → IsFresh old shard → IsOwedAll types old shard
      → CutsBack old new shard kept → AreSoundAndCovered types new

-- another store with the same log may become the shard's master, where it keeps all jobs
pub record ChangesKeep : Type 0 where
  pub keep : (types : EdgeTypes) (old new : Stores) (shard : ℕ) → AreSoundAndCovered types old → ChangesMaster types old new shard
      → AreSoundAndCovered types new

-- the jobs that a store keeps, a master or not, stay those of its entries when its log grows or is cut back
pub record KeptJobsStay : Type 0 where
  pub grows : (types : EdgeTypes) (log more : List Entry) (job : ℕ → Option (List EdgeUpdate)) → HasItsJobs types log job → HasItsJobs types (log ++ more) job
  pub cut : (types : EdgeTypes) (log : List Entry) (old new : ℕ → Option (List EdgeUpdate)) (kept : ℕ) → HasItsJobs types log old → JobsAreCut old new kept
      → HasItsJobs types (take kept log) new

-- a whole promotion keeps the stores sound and covered, whatever step it stops after, and leaves the shard's first entries, and every other log as it was
pub record PromotionsKeep : Type 0 where
  pub keep : (types : EdgeTypes) (old new : Stores) (shard kept : ℕ) → AreSoundAndCovered types old → entries_ever old < 2 ^ 32
      → (p : Promotes types old new shard kept) → StaysCovered types old new shard kept p
  pub logs : (types : EdgeTypes) (old new : Stores) (shard kept : ℕ) → Promotes types old new shard kept
      → new.logs ≡ slice_set old.logs shard (take kept (log_of old.logs shard))
