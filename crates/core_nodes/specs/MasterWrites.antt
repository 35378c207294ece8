-- What a write and a merge ask of the store of a shard's master.
use Rattle.tao_base.specs.Writes.{write_shard}
use Rattle.tao_base.specs.declared.entry.Origin.{Origin}
use Rattle.tao_base.specs.declared.write.Write.{Write}
use Rattle.shard_tables.specs.Jobs.{AskedMerge, asked_merge}
use Rattle.shard_tables.specs.Written.{AskedWrite, asked_write}
use Rattle.tao_keeper.specs.Table.{Tables}
use Rattle.tao_schema.specs.Schema.{types_of}
use Rattle.topology.specs.Config.{Settings}
use Rattle.core_model.specs.Jobs.{ShardJob, far_shard}
use Rattle.core_model.specs.Stores.{master_log, master_store}

-- a write asks the master's store of its shard, in the first epoch
abbrev pub asked_of_master : Settings → Tables → Origin → Write → AskedWrite
asked_of_master s tables origin write = asked_write (types_of s.schema) s.log_max 0 (tables (master_store s (write_shard write))) origin write

-- a job asks the master's store of the shard where it is owed
abbrev pub job_of_master : Settings → Tables → ShardJob → AskedMerge
job_of_master s tables j = asked_merge s.log_max (master_log s tables (far_shard j.job)) j.shard j.job
