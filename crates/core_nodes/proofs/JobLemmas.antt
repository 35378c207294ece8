-- The steps of a job over the tables of the stores: it may be merged where it is owed, and is merged, and ended.
use Rattle.std.proofs.Common.{◌≡◌, ℕ, ◌<◌, List, length, Option, Some, None, sym, ap, ◌∙◌, subst}
use Rattle.std.specs.Option.{option_map}
use Rattle.std.specs.Prelude.{unwrap_or}
use Rattle.graph_model.specs.Soundness.{EdgeUpdate}
use Rattle.master_tables.proofs.Calls.{calls_are_steps, first_jobs_are_first, numbers_are_positions, tables_are_stores}
use Rattle.shard_tables.specs.Written.{TableGains}
use Rattle.tao_base.specs.EdgeTypes.{InversesMatch}
use Rattle.tao_base.specs.Ids.{shard_of}
use Rattle.tao_base.specs.declared.entry.Entry.{Entry}
use Rattle.tao_keeper.specs.Table.{Becomes, IsLeastJob, Tables, after_commit, after_end}
use Rattle.tao_keeper.specs.declared.jobs.Job.{Job}
use Rattle.tao_schema.specs.Schema.{types_of}
use Rattle.topology.specs.Config.{Settings}
use Rattle.write_model.proofs.CoverEnds.{ends_keep}
use Rattle.write_model.proofs.CoverMerges.{merges_keep}
use Rattle.write_model.proofs.MergeOf.{jobs_may_be_merged}
use Rattle.write_model.proofs.OpenJobs.{open_jobs_are_owed}
use Rattle.write_model.specs.MergeLaws.{MayBeMerged}
use Rattle.write_model.specs.Merges.{JobSource, job_of, log_of, merge_of, source_number}
use Rattle.core_model.proofs.OwedJobs.{first_record}
use Rattle.core_model.specs.Jobs.{EndsOwed, IsFirstJobOf, OwesShardJob, IsMergedJob, IsOwedJob, MergesOwed, ShardJob, far_shard, job_on}
use Rattle.core_model.specs.Stores.{AreKeptIn, master_log, master_store, masters_of, stores_in}

-- what is so of a job: of the shard where it is owed, its own shard, its position and its records
abbrev OfJob : Type 1
OfJob = ℕ → ℕ → ℕ → List EdgeUpdate → Type 0

-- what is so of an entry that owes is so of its job, and the other way round
pub of_job : (s : Settings) (j : ShardJob) (owed : JobSource) (P : OfJob) → OwesShardJob s j owed
    → P owed.other owed.shard owed.entry.position (job_of (types_of s.schema) owed.entry) → P (far_shard j.job) j.shard j.job.position j.job.edges
of_job s j owed P is p =
    let us = job_of (types_of s.schema) owed.entry in
    let other = subst (λ k. P k owed.shard owed.entry.position us) is.other_is p in
    let shard = subst (λ k. P (far_shard j.job) k owed.entry.position us) is.shard_is other in
    let position = subst (λ k. P (far_shard j.job) j.shard k us) is.position_is shard in
    subst (P (far_shard j.job) j.shard j.job.position) (sym is.records_are) position

pub of_owed : (s : Settings) (j : ShardJob) (owed : JobSource) (P : OfJob) → OwesShardJob s j owed → P (far_shard j.job) j.shard j.job.position j.job.edges
    → P owed.other owed.shard owed.entry.position (job_of (types_of s.schema) owed.entry)
of_owed s j owed P is p =
    let us = job_of (types_of s.schema) owed.entry in
    let records = subst (P (far_shard j.job) j.shard j.job.position) is.records_are p in
    let position = subst (λ k. P (far_shard j.job) j.shard k us) (sym is.position_is) records in
    let shard = subst (λ k. P (far_shard j.job) k owed.entry.position us) (sym is.shard_is) position in
    subst (λ k. P k owed.shard owed.entry.position us) (sym is.other_is) shard

-- the entry that merges the job where it is owed
abbrev pub due : Settings → Tables → ShardJob → Option Entry
due s tables j = merge_of (master_log s tables (far_shard j.job)) j.shard j.job.position j.job.edges

module _ (s : Settings) (old : Tables) (j : ShardJob) (far : far_shard j.job < s.shards) where
  -- every epoch is the first, so a merge names the entry by its position
  number_is : (is : IsOwedJob s old j) → source_number is.owed ≡ is.owed.entry.position
  number_is is = (numbers_are_positions (masters_of s) old).number_is (types_of s.schema) is.owed is.owes

  by_number : (is : IsOwedJob s old j) (made : Option Entry)
      → merge_of (old ((masters_of s).name is.owed.other)).log is.owed.shard is.owed.entry.position (job_of (types_of s.schema) is.owed.entry) ≡ made
      → merge_of (old ((masters_of s).name is.owed.other)).log is.owed.shard (source_number is.owed) (job_of (types_of s.schema) is.owed.entry) ≡ made
  by_number is made = subst (λ n. merge_of (old ((masters_of s).name is.owed.other)).log is.owed.shard n (job_of (types_of s.schema) is.owed.entry) ≡ made)
      (sym (number_is is))

  -- it may be merged
  pub may_be_merged : InversesMatch (types_of s.schema) → AreKeptIn s old → 0 < length j.job.edges → IsOwedJob s old j
      → MayBeMerged (far_shard j.job) (master_log s old (far_shard j.job)) j.shard j.job.position j.job.edges
  may_be_merged match kept some is =
      let types = types_of s.schema in
      let logs = (stores_in s old).logs in
      let many = of_owed s j is.owed (λ other shard position us. 0 < length us) is.of some in
      let numbered = jobs_may_be_merged.may types (log_of logs is.owed.other) is.owed
      (open_jobs_are_owed.mergeable types (stores_in s old) is.owed match kept is.owes many) in
      let may = subst (λ n. MayBeMerged is.owed.other (log_of logs is.owed.other) is.owed.shard n (job_of types is.owed.entry))
      (number_is is) numbered in
      let there = of_job s j is.owed (λ other shard position us. MayBeMerged other (log_of logs other) shard position us) is.of may in
      subst (λ l. MayBeMerged (far_shard j.job) l j.shard j.job.position j.job.edges)
      ((tables_are_stores (masters_of s) old).log_is (far_shard j.job) far) there

  -- it is merged, by the entry or by none
  pub merges_owed : (new : Tables) (made : Option Entry) → IsOwedJob s old j → made ≡ due s old j
      → TableGains old new (master_store s (far_shard j.job)) made None → MergesOwed s old new j
  merges_owed new None is due_is gains =
      let types = types_of s.schema in
      let m = masters_of s in
      let within = of_owed s j is.owed (λ other shard position us. other < s.shards) is.of far in
      let none = of_owed s j is.owed (λ other shard position us. merge_of (old (m.name other)).log shard position us ≡ None) is.of (sym due_is) in
      record { owed = is.owed; of = is.of; merges = (calls_are_steps m old new).merges_none types is.owed within is.owes (by_number is None none) gains }
  merges_owed new (Some e) is due_is gains =
      let types = types_of s.schema in
      let m = masters_of s in
      let within = of_owed s j is.owed (λ other shard position us. other < s.shards) is.of far in
      let some = of_owed s j is.owed (λ other shard position us. merge_of (old (m.name other)).log shard position us ≡ Some e) is.of (sym due_is) in
      let there = of_owed s j is.owed (λ other shard position us. Becomes old new (m.name other) (after_commit (old (m.name other)) e None)) is.of gains in
      record { owed = is.owed; of = is.of; merges = (calls_are_steps m old new).merges types is.owed e within is.owes (by_number is (Some e) some) there }

-- what a merge leaves
module _ (s : Settings) (old new : Tables) (j : ShardJob) (match : InversesMatch (types_of s.schema)) (kept : AreKeptIn s old) (step : MergesOwed s old new j)
  where
    pub merge_keeps : AreKeptIn s new
    merge_keeps = merges_keep.keep (types_of s.schema) (stores_in s old) (stores_in s new) step.owed match kept step.merges

    pub is_merged : IsMergedJob s new j
    is_merged =
        let left = merges_keep.done (types_of s.schema) (stores_in s old) (stores_in s new) step.owed match kept step.merges in
        record { owed = step.owed; of = step.of; owes = left.0; done = left.1 }

-- a job that was merged is ended
pub ends_owed : (s : Settings) (old new : Tables) (j : ShardJob) → j.shard < s.shards → IsMergedJob s old j
    → Becomes old new (master_store s j.shard) (after_end (old (master_store s j.shard)) j.job.position) → EndsOwed s old new j
ends_owed s old new j here is becomes =
    let m = masters_of s in
    let within = of_owed s j is.owed (λ other shard position us. shard < s.shards) is.of here in
    let there = of_owed s j is.owed (λ other shard position us. Becomes old new (m.name shard) (after_end (old (m.name shard)) position)) is.of becomes in
    record { owed = is.owed; of = is.of; ends = (calls_are_steps m old new).ends (types_of s.schema) is.owed within is.owes is.done there }

pub end_keeps : (s : Settings) (old new : Tables) (j : ShardJob) → AreKeptIn s old → EndsOwed s old new j → AreKeptIn s new
end_keeps s old new j kept step = ends_keep.keep (types_of s.schema) (stores_in s old) (stores_in s new) step.owed kept step.ends

-- the job of the least position is the first of its shard
pub first_job_of : (s : Settings) (tables : Tables) (shard : ℕ) (job : Job) → shard < s.shards → AreKeptIn s tables → 0 < length job.edges
    → IsLeastJob (tables (master_store s shard)).jobs (Some job) → IsFirstJobOf s tables (job_on shard job)
first_job_of s tables shard job here kept some least =
    let one = first_record job.edges some in
    let first = (first_jobs_are_first (masters_of s) tables).first (types_of s.schema) shard job one.0 here kept least one.1 in
    record {
      owed = first.0;
      of = record {
        shard_is = first.1.shard_is;
        other_is = first.2 ∙ sym (ap (λ o. unwrap_or (option_map (λ u. shard_of u.0) o) 0) one.2);
        position_is = first.1.position_is;
        records_are = first.1.records_are;
      };
      owes = first.1.owes;
      first = first.3;
    }
