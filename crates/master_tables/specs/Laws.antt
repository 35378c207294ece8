-- What the calls of a keeper do to the tables, seen as steps of the stores of all shards.
use Rattle.std.specs.Prelude.{ℕ, ◌≡◌, ◌<◌, Contains, Some, None}
use Rattle.tao_base.specs.Ids.{shard_of}
use Rattle.tao_base.specs.EdgeTypes.{EdgeTypes}
use Rattle.tao_base.specs.declared.entry.Entry.{Entry}
use Rattle.write_model.specs.Machine.{ClientWrite, IsFirstJob}
use Rattle.write_model.specs.Merges.{HasJob, JobSource, job_of, log_of, merge_of, source_number}
use Rattle.tao_keeper.specs.graph_model.Soundness.{EdgeUpdate}
use Rattle.write_model.specs.Steps.{AreSoundAndCovered, CommitsWithJob, EndsJob, IsJobOf, IsOwed, JobsStay, MergesJob}
use Rattle.write_model.specs.Writes.{forward_entry}
use Rattle.tao_keeper.specs.Table.{Becomes, Stays, Tables, IsLeastJob, after_commit, after_end, job_from}
use Rattle.tao_keeper.specs.declared.jobs.Job.{Job}
use Rattle.master_tables.specs.Masters.{Masters, stores_of}

-- each shard's log and jobs are those of its master's table
pub record TablesAreStores (m : Masters) (tables : Tables) : Type 0 where
  pub log_is : (shard : ℕ) → shard < m.shards → log_of (stores_of m tables).logs shard ≡ (tables (m.name shard)).log
  pub job_is : (shard position : ℕ) → shard < m.shards → (stores_of m tables).job shard position ≡ (tables (m.name shard)).jobs position

-- a merge names an entry that owes by its position: every epoch is the first
pub record NumbersArePositions (m : Masters) (tables : Tables) : Type 0 where
  pub number_is : (types : EdgeTypes) (owed : JobSource) → IsOwed types (stores_of m tables) owed → source_number owed ≡ owed.entry.position

-- the calls are the steps
pub record CallsAreSteps (m : Masters) (old new : Tables) : Type 0 where
  -- where no table changes, nothing does
  pub stays : Stays old new → ((stores_of m new).logs ≡ (stores_of m old).logs) × JobsStay (stores_of m old) (stores_of m new)
  -- the commit of a write's entry with its job
  pub commits : (types : EdgeTypes) (w : ClientWrite) (e : Entry) → w.shard < m.shards → w.epoch ≡ 0
      → (old (m.name w.shard)).jobs e.position ≡ None → forward_entry types w.epoch (old (m.name w.shard)).log w.origin w.asked ≡ Some e
      → Becomes old new (m.name w.shard) (after_commit (old (m.name w.shard)) e (job_from e.position (job_of types e)))
      → CommitsWithJob types (stores_of m old) (stores_of m new) w e
  -- the commit of a merge, without a job
  pub merges : (types : EdgeTypes) (owed : JobSource) (e : Entry) → owed.other < m.shards → IsOwed types (stores_of m old) owed
      → merge_of (old (m.name owed.other)).log owed.shard (source_number owed) (job_of types owed.entry) ≡ Some e
      → Becomes old new (m.name owed.other) (after_commit (old (m.name owed.other)) e None) → MergesJob types (stores_of m old) (stores_of m new) owed
  -- a merge that has nothing to write
  pub merges_none : (types : EdgeTypes) (owed : JobSource) → owed.other < m.shards → IsOwed types (stores_of m old) owed
      → merge_of (old (m.name owed.other)).log owed.shard (source_number owed) (job_of types owed.entry) ≡ None
      → Stays old new → MergesJob types (stores_of m old) (stores_of m new) owed
  -- the end of a job
  pub ends : (types : EdgeTypes) (owed : JobSource) → owed.shard < m.shards → IsOwed types (stores_of m old) owed
      → HasJob types (log_of (stores_of m old).logs owed.other) owed.entry
      → Becomes old new (m.name owed.shard) (after_end (old (m.name owed.shard)) owed.entry.position) → EndsJob types (stores_of m old) (stores_of m new) owed

-- a store's first job is its shard's first job, and each of its records says where it may be merged
pub record FirstJobsAreFirst (m : Masters) (tables : Tables) : Type 0 where
  pub first : (types : EdgeTypes) (shard : ℕ) (job : Job) (u : EdgeUpdate) → shard < m.shards → AreSoundAndCovered types (stores_of m tables)
      → IsLeastJob (tables (m.name shard)).jobs (Some job) → Contains job.edges u
      → (by : JobSource) × IsJobOf types (stores_of m tables) shard job.position job.edges by × (by.other ≡ shard_of u.0)
      × IsFirstJob types (stores_of m tables) by
  pub none : (shard position : ℕ) → shard < m.shards → IsLeastJob (tables (m.name shard)).jobs None → (stores_of m tables).job shard position ≡ None

-- for all tables the masters' tables are the stores, the calls are the steps, and a store's first job is its shard's first
pub record TableLaws : Type 0 where
  pub are_stores : (m : Masters) (tables : Tables) → TablesAreStores m tables
  pub are_positions : (m : Masters) (tables : Tables) → NumbersArePositions m tables
  pub are_steps : (m : Masters) (old new : Tables) → CallsAreSteps m old new
  pub are_first : (m : Masters) (tables : Tables) → FirstJobsAreFirst m tables
