-- A job between two shards, as it is known without the locks of their stores: by notes of their logs.
use Rattle.std.specs.Prelude.{ℕ, ◌≡◌, ◌≢◌, All, Bool}
use Rattle.node_stages.specs.core_model.Jobs.{far_shard}
use Rattle.graph_model.specs.Told.{WhereTold}
use Rattle.log_names.specs.Names.{IsOfLog, LogNames}
use Rattle.shard_log.specs.View.{View}
use Rattle.shard_tables.specs.Written.{StandsIn}
use Rattle.tao_base.specs.EdgeTypes.{EdgeTypes}
use Rattle.tao_base.specs.Ids.{shard_of}
use Rattle.tao_base.specs.declared.entry.Entry.{Entry}
use Rattle.tao_keeper.specs.Given.{IsGivenJob}
use Rattle.tao_keeper.specs.declared.jobs.Job.{Job}
use Rattle.tao_schema.specs.Schema.{types_of}
use Rattle.write_model.specs.Merges.{HasJob, job_of}
use Rattle.shared_stores.specs.Making.{Making}

-- what an entry of one shard owes to another
pub record Owed : Type 0 where
  pub from : ℕ
  pub to : ℕ
  pub entry : Entry
  pub job : Job

-- what an entry of a shard owes by its job to the shard on which the job's records lie
abbrev pub owed_by : ℕ → Job → Entry → Owed
owed_by from job entry = record { from = from; to = far_shard job; entry = entry; job = job }

-- the job is that of the entry, and its records lie on the other shard
pub record OwesItsJob (types : EdgeTypes) (owed : Owed) : Type 0 where
  pub position_is : owed.job.position ≡ owed.entry.position
  pub records_are : owed.job.edges ≡ job_of types owed.entry
  pub there : All (λ u. shard_of u.0 ≡ owed.to) (job_of types owed.entry)

-- a keeper gave the job, which is owed to another shard; where the tables are told, it is that of the entry, and its records lie on that shard
pub record IsOwed (tells : Bool) (types : EdgeTypes) (owed : Owed) : Type 0 where
  pub given : IsGivenJob owed.job
  pub away : owed.from ≢ owed.to
  pub owes : WhereTold tells (OwesItsJob types owed)

-- the entry that owes stands in what was seen of its shard's log
pub record IsOwedIn (tells : Bool) (m : Making) (log : LogNames) (note : View) (owed : Owed) : Type 0 where
  pub owes : IsOwed tells (types_of m.settings.schema) owed
  pub log_is : IsOfLog log owed.from note
  pub stands : StandsIn note owed.entry

-- all records of the job, or later ones, stand in what was seen of the log where they are owed
pub record IsDoneIn (m : Making) (log : LogNames) (note : View) (owed : Owed) : Type 0 where
  pub log_is : IsOfLog log owed.to note
  pub done : WhereTold note.log.told (HasJob (types_of m.settings.schema) note.entries owed.entry)
