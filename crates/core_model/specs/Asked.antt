-- What contracts see of what is lent to a call, and the write of a client.
use Rattle.tao_base.specs.declared.entry.Origin.{Origin}
use Rattle.tao_base.specs.declared.write.Write.{Write}
use Rattle.topology.specs.Config.{Settings}
use Rattle.core_model.specs.Jobs.{ShardJob, job_on}
use Rattle.core_model.specs.Reads.{Wanted, wanted}
use Rattle.core_model.specs.declared.asked.Around.{Around}
use Rattle.core_model.specs.declared.asked.AuthoredWrite.{AuthoredWrite as LentWrite}
use Rattle.core_model.specs.declared.asked.ShardJob.{ShardJob as LentJob}
use Rattle.core_model.specs.declared.asked.Wanted.{Wanted as LentRead}

-- the configuration around a call
abbrev pub settings : Around → Settings
settings around = around.config.now

-- a read that is lent
abbrev pub lent_read : LentRead → Wanted
lent_read read = wanted read.query.now read.floor

-- a job that is lent, of its shard
abbrev pub lent_job : LentJob → ShardJob
lent_job job = job_on job.shard job.job.now

-- the write of a client, under its origin
pub record AuthoredWrite : Type 0 where
  pub origin : Origin
  pub write : Write

-- a client's write, under the origin by which a retry is known
abbrev pub client_call : Origin → Write → AuthoredWrite
client_call origin write = record { origin = origin; write = write }

-- a client's write that is lent
abbrev pub lent_call : LentWrite → AuthoredWrite
lent_call call = client_call call.origin call.write.now
