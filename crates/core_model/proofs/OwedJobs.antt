-- A job that is open in kept stores is owed.
use Rattle.std.proofs.Common.{◌≡◌, ℕ, ◌<◌, List, [], ◌∷◌, Some, inl, refl, sym, ap, ◌∙◌, arith}
use Rattle.std.specs.Option.{option_map}
use Rattle.std.specs.Prelude.{Contains, length, slice_get, unwrap_or}
use Rattle.graph_model.proofs.Members.{contains_from_in}
use Rattle.graph_model.specs.Soundness.{EdgeUpdate}
use Rattle.leader_tier.proofs.master_tables_lemmas.Calls.{tables_are_stores}
use Rattle.tao_base.specs.Ids.{shard_of}
use Rattle.tao_keeper.specs.Table.{Tables}
use Rattle.tao_keeper.specs.declared.jobs.Job.{Job}
use Rattle.tao_schema.specs.Schema.{types_of}
use Rattle.topology.specs.Config.{Settings}
use Rattle.write_model.proofs.OpenJobs.{open_jobs_are_owed}
use Rattle.core_model.specs.Jobs.{IsOwedJob, job_on}
use Rattle.core_model.specs.Stores.{AreKeptIn, master_store, masters_of, stores_in}

-- the first of some records
pub first_record : (us : List EdgeUpdate) → 0 < length us → (u : EdgeUpdate) × Contains us u × (slice_get us 0 ≡ Some u)
first_record [] some = absurd (omega (arith, some))
first_record (u ∷ us) some = (u, contains_from_in (u ∷ us) u (inl refl), refl)

module _ (s : Settings) (tables : Tables) (shard : ℕ) (job : Job) (within : shard < s.shards) (kept : AreKeptIn s tables)
    (is : (tables (master_store s shard)).jobs job.position ≡ Some job.edges) where
  there : (stores_in s tables).job shard job.position ≡ Some job.edges
  there = (tables_are_stores (masters_of s) tables).job_is shard job.position within ∙ is

  pub open_job_owed : IsOwedJob s tables (job_on shard job)
  open_job_owed =
      let types = types_of s.schema in
      let some = open_jobs_are_owed.some types (stores_in s tables) shard job.position job.edges kept there in
      let first = first_record job.edges some in
      let owed = open_jobs_are_owed.owed types (stores_in s tables) shard job.position job.edges first.0 kept there first.1 in
      record {
        owed = owed.0;
        of = record {
          shard_is = owed.1.shard_is;
          other_is = owed.2 ∙ sym (ap (λ o. unwrap_or (option_map (λ u. shard_of u.0) o) 0) first.2);
          position_is = owed.1.position_is;
          records_are = owed.1.records_are;
        };
        owes = owed.1.owes;
      }
