-- What contracts see of what is lent to a store under its lock.
use Rattle.std.specs.Prelude.{ℕ, List}
use Rattle.node_stages.specs.core_model.Asked.{AuthoredWrite}
use Rattle.shard_tables.specs.Written.{AskedWrite}
use Rattle.tao_base.specs.declared.entry.Entry.{Entry}
use Rattle.tao_schema.specs.Schema.{types_of}
use Rattle.shared_stores.specs.Making.{Making}
use Rattle.shared_stores.specs.Owed.{Owed}
use Rattle.shared_stores.specs.declared.owed.OwedJob.{OwedJob}

-- a job that is lent, between its two shards
abbrev pub lent_owed : OwedJob → Owed
lent_owed owed = record { from = owed.from; to = owed.to; entry = owed.entry.now; job = owed.job.now }

-- the write that a session asks of what was seen of a shard's log, in the first epoch. As many entries are old as when the cluster was made
abbrev pub asked_of_seen : Making → ℕ → List Entry → AuthoredWrite → AskedWrite
asked_of_seen m shard entries call = record {
  types = types_of m.settings.schema;
  most = m.settings.log_max;
  epoch = 0;
  log = entries;
  cut = m.cut shard;
  origin = call.origin;
  write = call.write;
}
