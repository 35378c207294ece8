-- What entries owe to other shards: their jobs, which are merged there and then ended.
use Rattle.std.specs.Prelude.{ℕ, ◌≡◌, Bool, slice_get, unwrap_or}
use Rattle.std.specs.Option.{option_map}
use Rattle.graph_model.specs.Told.{WhereTold}
use Rattle.tao_base.specs.Ids.{shard_of}
use Rattle.tao_keeper.specs.Given.{IsGivenJob}
use Rattle.tao_keeper.specs.Table.{Tables}
use Rattle.tao_keeper.specs.declared.jobs.Job.{Job}
use Rattle.tao_schema.specs.Schema.{types_of}
use Rattle.topology.specs.Config.{Settings}
use Rattle.write_model.specs.Machine.{IsFirstJob}
use Rattle.write_model.specs.Merges.{HasJob, JobSource, job_of, log_of}
use Rattle.write_model.specs.Steps.{EndsJob, IsOwed, MergesJob}
use Rattle.core_model.specs.Stores.{stores_in}

-- the shard on which the first record of a job lies, as all of them do
abbrev pub far_shard : Job → ℕ
far_shard job = unwrap_or (option_map (λ u. shard_of u.0) (slice_get job.edges 0)) 0

-- a job of a shard
pub record ShardJob : Type 0 where
  pub shard : ℕ
  pub job : Job

-- a job, and the shard in whose log its entry stands
abbrev pub job_on : ℕ → Job → ShardJob
job_on shard job = record { shard = shard; job = job }

-- the job is what the entry of its shard owes to the shard on which its records lie
pub record OwesShardJob (s : Settings) (j : ShardJob) (owed : JobSource) : Type 0 where
  pub shard_is : owed.shard ≡ j.shard
  pub other_is : owed.other ≡ far_shard j.job
  pub position_is : owed.entry.position ≡ j.job.position
  pub records_are : j.job.edges ≡ job_of (types_of s.schema) owed.entry

-- an entry stands whose job it is, open or not
pub record IsOwedJob (s : Settings) (tables : Tables) (j : ShardJob) : Type 0 where
  pub owed : JobSource
  pub of : OwesShardJob s j owed
  pub owes : IsOwed (types_of s.schema) (stores_in s tables) owed

-- the job may be merged: a keeper gave it, and where the tables are told an entry stands whose job it is
pub record CanBeMerged (tells : Bool) (s : Settings) (tables : Tables) (j : ShardJob) : Type 0 where
  pub given : IsGivenJob j.job
  pub owed : WhereTold tells (IsOwedJob s tables j)

-- the job is the first open one of its shard
pub record IsFirstJobOf (s : Settings) (tables : Tables) (j : ShardJob) : Type 0 where
  pub owed : JobSource
  pub of : OwesShardJob s j owed
  pub owes : IsOwed (types_of s.schema) (stores_in s tables) owed
  pub first : IsFirstJob (types_of s.schema) (stores_in s tables) owed

-- all records of the job, or later ones, are where they are owed
pub record IsMergedJob (s : Settings) (tables : Tables) (j : ShardJob) : Type 0 where
  pub owed : JobSource
  pub of : OwesShardJob s j owed
  pub owes : IsOwed (types_of s.schema) (stores_in s tables) owed
  pub done : HasJob (types_of s.schema) (log_of (stores_in s tables).logs owed.other) owed.entry

-- the step of the plain machine that merges a job
pub record MergesOwed (s : Settings) (old new : Tables) (j : ShardJob) : Type 0 where
  pub owed : JobSource
  pub of : OwesShardJob s j owed
  pub merges : MergesJob (types_of s.schema) (stores_in s old) (stores_in s new) owed

-- the step of the plain machine that ends a job
pub record EndsOwed (s : Settings) (old new : Tables) (j : ShardJob) : Type 0 where
  pub owed : JobSource
  pub of : OwesShardJob s j owed
  pub ends : EndsJob (types_of s.schema) (stores_in s old) (stores_in s new) owed
