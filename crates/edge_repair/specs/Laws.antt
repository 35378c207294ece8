-- What a repair is to the stores of all shards.
use Rattle.std.specs.Prelude.{◌≡◌, ◌<◌, ◌⊎◌, Option, Result, Ok, Err}
use Rattle.edge_repair.specs.JobBetween.{JobBetween}
use Rattle.edge_repair.specs.Merging.{RepairsAs}
use Rattle.edge_repair.specs.declared.refusal.RepairRefusal.{RepairRefusal}
use Rattle.edge_repair.specs.declared.repairs.RepairOutcome.{RepairOutcome}
use Rattle.master_tables.specs.Masters.{Masters, stores_of}
use Rattle.tao_base.specs.EdgeTypes.{EdgeTypes, InversesMatch}
use Rattle.tao_keeper.specs.Table.{Tables}
use Rattle.tao_link.specs.declared.link.Carry.{Carry}
use Rattle.write_model.specs.Machine.{IsFirstJob, Repairs}
use Rattle.write_model.specs.Merges.{JobSource, Stores, job_of}
use Rattle.write_model.specs.Steps.{AreSoundAndCovered, EndsJob, IsOwed, JobsStay, MergesJob}

-- the job is owed in sound and covered stores, between the masters of two shards
pub record IsOwedBetween (types : EdgeTypes) (m : Masters) (tables : Tables) (owed : JobSource) (j : JobBetween) : Type 0 where
  pub inverses : InversesMatch types
  pub kept : AreSoundAndCovered types (stores_of m tables)
  pub owes : IsOwed types (stores_of m tables) owed
  pub within : (owed.shard < m.shards) × (owed.other < m.shards)
  pub from_is : j.from ≡ m.name owed.shard
  pub to_is : j.to.name ≡ m.name owed.other
  pub position_is : j.job.position ≡ owed.entry.position
  pub records_are : j.job.edges ≡ job_of types owed.entry

-- the job is merged, and then ended
pub record MergesAndEnds (types : EdgeTypes) (old new : Stores) (owed : JobSource) : Type 0 where
  pub mid : Stores
  pub merges : MergesJob types old mid owed
  pub ends : EndsJob types mid new owed

-- no log, no job and no epoch changes
pub record NothingHappens (old new : Stores) : Type 0 where
  pub logs : new.logs ≡ old.logs
  pub jobs : JobsStay old new
  pub epochs : new.epochs ≡ old.epochs

-- a repair merges the job and then ends it, and a refused one merges it at most; of a first job it is the plain machine's repair.
-- Whatever its answer, the stores stay sound and covered
pub record RepairsAreSteps (types : EdgeTypes) (m : Masters) (old new : Tables) (owed : JobSource) (j : JobBetween) : Type 0 where
  pub repaired : (failed : Option Carry) (repaired : RepairOutcome) → RepairsAs j failed old new (Ok repaired)
      → MergesAndEnds types (stores_of m old) (stores_of m new) owed
  pub refused : (failed : Option Carry) (refusal : RepairRefusal) → RepairsAs j failed old new (Err refusal)
      → NothingHappens (stores_of m old) (stores_of m new) ⊎ MergesJob types (stores_of m old) (stores_of m new) owed
  pub first : (failed : Option Carry) (repaired : RepairOutcome) → RepairsAs j failed old new (Ok repaired) → IsFirstJob types (stores_of m old) owed
      → Repairs types (stores_of m old) (stores_of m new).logs owed
  pub kept : (failed : Option Carry) (result : Result RepairOutcome RepairRefusal) → RepairsAs j failed old new result
      → AreSoundAndCovered types (stores_of m new)

-- the repair of each job that is owed is made of steps of the plain machine
pub record RepairLaws : Type 0 where
  pub are_steps : (types : EdgeTypes) (m : Masters) (old new : Tables) (owed : JobSource) (j : JobBetween) → IsOwedBetween types m old owed j
      → RepairsAreSteps types m old new owed j
