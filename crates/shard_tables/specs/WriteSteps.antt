-- A write that was answered is a step of the stores of all shards.
use Rattle.std.specs.Prelude.{ℕ, ◌≡◌, ◌<◌, true, false, Option, Some, None}
use Rattle.std.specs.Option.{option_map}
use Rattle.graph_model.specs.Soundness.{IsSoundOf}
use Rattle.master_tables.specs.Masters.{Masters, stores_of}
use Rattle.tao_base.specs.declared.entry.Entry.{Entry}
use Rattle.tao_keeper.specs.Table.{AreOfEntries, Tables}
use Rattle.tao_keeper.specs.declared.jobs.Job.{Job}
use Rattle.write_model.specs.Machine.{ChangesNothing, ClientWrite, Repeats}
use Rattle.write_model.specs.Steps.{CommitsWithJob, JobsStay}
use Rattle.shard_tables.specs.Jobs.{FindsJob, job_with}
use Rattle.shard_tables.specs.Written.{AnswersAs, AskedWrite, TableGains}

-- the write that is asked, of its shard
abbrev pub client_write : ℕ → AskedWrite → ClientWrite
client_write shard asked = record { shard = shard; epoch = asked.epoch; origin = asked.origin; asked = asked.write }

-- what the clauses of a write at the shard's master say of the stores of all shards
pub record WriteIsStep (m : Masters) (old new : Tables) (shard : ℕ) (asked : AskedWrite) : Type 0 where
  -- a new write that changes something commits its entry, with its job
  pub commits : (e : Entry) → AnswersAs asked false (Some e) → TableGains old new (m.name shard) (Some e) (job_with asked.types (Some e))
      → CommitsWithJob asked.types (stores_of m old) (stores_of m new) (client_write shard asked) e
  -- one that finds nothing to change changes nothing
  pub nothing : AnswersAs asked false None → TableGains old new (m.name shard) None None
      → ChangesNothing asked.types (stores_of m old).logs (stores_of m new).logs (client_write shard asked) × JobsStay (stores_of m old) (stores_of m new)
  -- one that was made before repeats, and merges nothing, whatever the other shard
  pub repeats : (e : Entry) (other : ℕ) → AnswersAs asked true (Some e) → TableGains old new (m.name shard) None None
      → Repeats asked.types (stores_of m old).logs (stores_of m new).logs (client_write shard asked) e other × JobsStay (stores_of m old) (stores_of m new)
  -- and the job that it finds is the shard's open job of its entry, none where none is open
  pub finds : (e : Entry) (job : Option Job) → FindsJob (old (m.name shard)) true (Some e) job
      → (stores_of m old).job shard e.position ≡ option_map (λ j. j.edges) job

-- each write that was answered is a step of the stores, in the first epoch, where the log is sound and its jobs are of its entries
pub record WritesAreSteps : Type 0 where
  pub are : (m : Masters) (old new : Tables) (shard : ℕ) (asked : AskedWrite) → shard < m.shards → asked.epoch ≡ 0 → asked.log ≡ (old (m.name shard)).log
      → IsSoundOf asked.types shard asked.log → AreOfEntries (old (m.name shard)) → WriteIsStep m old new shard asked
