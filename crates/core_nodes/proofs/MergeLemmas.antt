-- What the merge of a job through a leader leaves of the tables: a step of the plain machine, or nothing.
use Rattle.std.proofs.Common.{◌≡◌, ◌<◌, Bool, false, None, Result, Ok, Err, IfOk, OnOk, ap, ◌∙◌}
use Rattle.std.specs.Prelude.{if◌then◌else◌}
use Rattle.core_model.proofs.KeptStores.{kept_stays}
use Rattle.core_model.specs.Jobs.{IsMergedJob, IsOwedJob, MergesOwed, ShardJob, far_shard}
use Rattle.core_model.specs.Stores.{AreKeptIn, master_log, master_store}
use Rattle.core_nodes.proofs.JobLemmas.{is_merged, merge_keeps, merges_owed}
use Rattle.core_nodes.specs.MasterWrites.{job_of_master}
use Rattle.graph_model.specs.Told.{WhereTold}
use Rattle.shard_tables.specs.Jobs.{MergesAs}
use Rattle.shard_tables.specs.WriteDone.{MergeDone}
use Rattle.shard_tables.specs.Written.{TableGains, added_entry}
use Rattle.shard_tables.specs.declared.refusal.StoreRefusal.{StoreRefusal}
use Rattle.shard_tables.specs.declared.writes.Wrote.{Wrote}
use Rattle.tao_base.specs.EdgeTypes.{InversesMatch}
use Rattle.tao_keeper.specs.KeeperState.{KeeperState}
use Rattle.tao_keeper.specs.Table.{Tables}
use Rattle.tao_schema.specs.Schema.{types_of}
use Rattle.topology.specs.Config.{Settings}

-- what the answer of a merge leaves of the tables
pub record MergeLeaves (s : Settings) (before after : Tables) (j : ShardJob) (r : Result Wrote StoreRefusal) : Type 0 where
  pub step : OnOk r (MergesOwed s before after j)
  pub merged : OnOk r (IsMergedJob s after j)
  pub kept : AreKeptIn s after

module _ (s : Settings) (before after : Tables) (j : ShardJob) (far : far_shard j.job < s.shards) (match : InversesMatch (types_of s.schema))
    (kept : AreKeptIn s before) (owed : IsOwedJob s before j) where
  merge_leaves : (r : Result Wrote StoreRefusal) → IfOk r (λ wrote. wrote.retry ≡ false)
      → MergesAs s.log_max (master_log s before (far_shard j.job)) j.shard j.job.position j.job.edges r
      → TableGains before after (master_store s (far_shard j.job)) (added_entry r) None → MergeLeaves s before after j r
  merge_leaves (Ok wrote) first answer gains =
      let added : (if wrote.retry then None else wrote.entry) ≡ wrote.entry = ap (λ b. if b then None else wrote.entry) first in
      let step = merges_owed s before j far after (if wrote.retry then None else wrote.entry) owed (added ∙ answer.0) gains in
      record { step = step; merged = is_merged s before after j match kept step; kept = merge_keeps s before after j match kept step }
  merge_leaves (Err e) first answer gains = record { step = tt; merged = tt; kept = kept_stays s before after gains kept }

-- so does what the master's store did for it
pub merge_left : (tells : Bool) (s : Settings) (old new : KeeperState) (j : ShardJob) (r : Result Wrote StoreRefusal) → far_shard j.job < s.shards
    → InversesMatch (types_of s.schema) → WhereTold tells (AreKeptIn s old.told) → WhereTold tells (IsOwedJob s old.told j)
    → MergeDone tells (master_store s (far_shard j.job)) (job_of_master s old.told j) old new r → WhereTold tells (MergeLeaves s old.told new.told j r)
merge_left tells s old new j r far match kept owed done = λ told.
    merge_leaves s old.told new.told j far match (kept told) (owed told) r done.first (done.answer told) (done.tables told)
