-- What the end of a job and a look for the first one leave of the stores and the tables.
use Rattle.std.proofs.Common.{◌≡◌, ℕ, ◌<◌, Bool, List, Option, Some, None, Result, Ok, Err, IfOk, IfSome, OnOk, refl, sym, subst, true}
use Rattle.std.specs.Prelude.{slice_set}
use Rattle.core_model.proofs.KeptStores.{kept_stays}
use Rattle.core_model.proofs.PastCuts.{come_on, come_same}
use Rattle.core_model.specs.Jobs.{EndsOwed, IsFirstJobOf, IsMergedJob, ShardJob, job_on}
use Rattle.core_model.specs.Stores.{AreInOrder, AreKeptIn, AreStoresOf, master_store}
use Rattle.core_nodes.proofs.JobLemmas.{end_keeps, ends_owed, first_job_of}
use Rattle.core_nodes.proofs.MasterStores.{IsMasterRead, goes_same, stores_left}
use Rattle.core_nodes.proofs.StoreLemmas.{OthersStay}
use Rattle.graph_model.specs.Told.{WhereTold}
use Rattle.shard_tables.specs.StoreView.{Store}
use Rattle.shard_tables.specs.Stores.{IsStoreOf}
use Rattle.shard_tables.specs.declared.refusal.StoreRefusal.{StoreRefusal}
use Rattle.tao_base.specs.declared.id.StoreName.{StoreName}
use Rattle.tao_keeper.proofs.Growing.{same_cut, same_logs_grow}
use Rattle.tao_keeper.specs.Given.{IsGivenJob}
use Rattle.tao_keeper.specs.Table.{Changes, IsLeastJob, Stays, Table, Tables, after_end}
use Rattle.tao_keeper.specs.declared.jobs.Job.{Job}
use Rattle.topology.specs.Config.{Settings}

-- ---- the end of a job

-- the job's own table without it
abbrev pub TakesOutJob : {T : Type 0} → Settings → Tables → Tables → ShardJob → Result T StoreRefusal → Type 0
TakesOutJob s before after j r = Changes r before after (master_store s j.shard) (after_end (before (master_store s j.shard)) j.job.position)

pub record EndedAfter {T : Type 0} (tells : Bool) (s : Settings) (before after : Tables) (j : ShardJob) (xs : List Store) (r : Result T StoreRefusal) : Type 0
  where
    pub stores : AreStoresOf tells s after xs
    pub step : WhereTold tells (OnOk r (EndsOwed s before after j))

ends_others : {T : Type 0} (s : Settings) (before after : Tables) (j : ShardJob) (r : Result T StoreRefusal) → TakesOutJob s before after j r
    → OthersStay before after (master_store s j.shard)
ends_others s before after j (Ok t) ends other apart = ends.others other apart
ends_others s before after j (Err e) ends other apart = ends other

module _ (s : Settings) (before after : Tables) (j : ShardJob) (here : j.shard < s.shards) (is : IsMergedJob s before j) where
  ends_step : {T : Type 0} (r : Result T StoreRefusal) → TakesOutJob s before after j r → OnOk r (EndsOwed s before after j)
  ends_step (Ok t) ends = ends_owed s before after j here is ends
  ends_step (Err e) ends = tt

  ends_in_order : {T : Type 0} (r : Result T StoreRefusal) → AreInOrder s before → TakesOutJob s before after j r → AreInOrder s after
  ends_in_order (Ok t) order ends =
      let at : StoreName = master_store s j.shard in
      let table : Table = after_end (before at) j.job.position in
      record {
        kept = end_keeps s before after j order.kept (ends_owed s before after j here is ends);
        cuts = come_on s before after (same_logs_grow true before after at table refl (λ told. ends)) (same_cut true before after at table refl (λ told. ends))
            order.cuts;
      }
  ends_in_order (Err e) order ends =
      record { kept = kept_stays s before after ends order.kept; cuts = come_same s before after ends order.cuts }

-- the stores after the end of a job at its own master's store, which is only read
module _ (tells : Bool) (s : Settings) (before after : Tables) (xs : List Store) (place : ℕ) (j : ShardJob) (x y : Store)
    (are : AreStoresOf tells s before xs) (is : IsMasterRead tells s before xs j.shard place x) (same : y ≡ x) (here : j.shard < s.shards)
    (merged : WhereTold tells (IsMergedJob s before j)) where
  pub ended_after : {T : Type 0} (r : Result T StoreRefusal) → WhereTold tells (TakesOutJob s before after j r) → IsStoreOf tells after y
      → EndedAfter tells s before after j (slice_set xs place y) r
  ended_after r ends of = record {
    stores =
        stores_left tells s before after xs j.shard place x y are is (goes_same x y same) of
        (λ told. subst (OthersStay before after) (sym is.named) (ends_others s before after j r (ends told)))
        (λ told. ends_in_order s before after j here (merged told) r (record { kept = are.kept told; cuts = are.cuts told }) (ends told));
    step = λ told. ends_step s before after j here (merged told) r (ends told);
  }

-- ---- the first job

-- the job that was found is the first of its shard
pub first_found : (s : Settings) (before after : Tables) (shard : ℕ) (r : Result (Option Job) StoreRefusal) → shard < s.shards → AreKeptIn s before
    → Stays before after → IfOk r (λ found. IfSome found IsGivenJob) → IfOk r (IsLeastJob (before (master_store s shard)).jobs)
    → IfOk r (λ found. IfSome found (λ job. IsFirstJobOf s after (job_on shard job)))
first_found s before after shard (Ok None) here kept stays given least = tt
first_found s before after shard (Ok (Some job)) here kept stays given least =
    let same : after ≡ before = λ i at. stays at i in
    subst (λ tables. IsFirstJobOf s tables (job_on shard job)) (sym same) (first_job_of s before shard job here kept given.some least)
first_found s before after shard (Err e) here kept stays given least = tt
