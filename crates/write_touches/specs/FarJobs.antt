-- What an entry owes to another shard.
use Rattle.std.specs.Prelude.{Option, Some, None, not}
use Rattle.tao_base.specs.EdgeTypes.{EdgeTypes}
use Rattle.tao_base.specs.declared.entry.Entry.{Entry}
use Rattle.tao_base.specs.declared.entry.Touch.{Touch}
use Rattle.graph_model.specs.Soundness.{EdgeUpdate, other_end, update_at}
use Rattle.write_model.specs.Merges.{job_of}
use Rattle.write_model.specs.Writes.{is_near, when}
use Rattle.tao_keeper.specs.Table.{job_from}
use Rattle.tao_keeper.specs.declared.jobs.Job.{Job}

-- the record at the other end, where that lies on another shard and the type has an inverse
abbrev pub far_record : EdgeTypes → EdgeUpdate → Option EdgeUpdate
far_record types u = when (not (is_near u)) (other_end types u)

-- the record that a touch owes to another shard, where it owes one
abbrev pub owed_record : EdgeTypes → Touch → Option EdgeUpdate
owed_record types t = owed_of (update_at t.key t.change)
  where
    owed_of : Option EdgeUpdate → Option EdgeUpdate
    owed_of None = None
    owed_of (Some u) = far_record types u

-- the job that an entry opens, where it owes anything
abbrev pub job_for : EdgeTypes → Entry → Option Job
job_for types e = job_from e.position (job_of types e)
