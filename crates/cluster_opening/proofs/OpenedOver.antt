-- The stores of a cluster were opened, or not.
use Rattle.std.proofs.Common.{◌≡◌, ℕ, ◌<◌, Bool, List, length, Some, refl, ap, sym, subst, ◌∙◌}
use Rattle.std.specs.Prelude.{slice_get}
use Rattle.counts.specs.Count.{Rose}
use Rattle.core_model.specs.Consistent.{IsConsistent}
use Rattle.core_model.specs.Fleet.{Fleet}
use Rattle.core_model.specs.Stores.{master_store, store_count}
use Rattle.locked_nodes.proofs.core_nodes_lemmas.AskLemmas.{still_consistent}
use Rattle.locked_nodes.proofs.core_nodes_lemmas.OpenedLogs.{opened_keep, refused_beginning}
use Rattle.locked_nodes.specs.core_nodes.Opening.{IsOpened, RefusesOpening, open_refusal}
use Rattle.graph_model.specs.Told.{WhereTold}
use Rattle.replies.specs.declared.opening.OpenRefusal.TheVariants as refusal
use Rattle.tao_keeper.specs.KeeperState.{IsLater, KeeperState}
use Rattle.tao_keeper.specs.Table.{Stays, Table, Tables}
use Rattle.tao_keeper.specs.declared.keeper.KeepFail.{KeepFail}
use Rattle.tao_keeper.specs.declared.keeper.KeepFail.TheVariants as keep
use Rattle.tao_schema.specs.Schema.{types_of}
use Rattle.topology.specs.Config.{Settings}
use Rattle.write_model.specs.Merges.{HasItsJobs}
use Rattle.cluster_opening.specs.Opening.{AreCuts, HaveTheirJobs, IsOpenedOver}

-- the cuts are those of the masters' logs of the first shards, so many
pub record AreFirstCuts (tells : Bool) (s : Settings) (tables : Tables) (count : ℕ) (cuts : List ℕ) : Type 0 where
  pub long : length cuts ≡ count
  pub each : WhereTold tells ((shard : ℕ) → shard < count → slice_get cuts shard ≡ Some (tables (master_store s shard)).cut)

module _ (tells : Bool) (s : Settings) (line : List ℕ) (start mid new : KeeperState) (opened : WhereTold tells (IsOpened s line start.told mid.told))
    (stays : WhereTold tells (Stays mid.told new.told)) where
  pub opened_over : (f : Fleet) (cuts : List ℕ) → WhereTold tells (HaveTheirJobs s start.told) → IsConsistent tells s mid.told f
      → AreCuts tells s mid.told cuts → IsOpenedOver tells s new.told f cuts
  opened_over f cuts jobs is are = record {
    consistent = still_consistent tells s mid.told new.told f is stays;
    cuts_are = record {
      long = are.long;
      each = λ told shard lt. are.each told shard lt ∙ ap (λ (t : Table). Some t.cut) (sym (stays told (master_store s shard)));
    };
    jobs = λ told at here.
        let keep = opened_keep s line (store_count s) start.told mid.told (opened told).opened in
        let log : (new.told at).log ≡ (start.told at).log = ap (λ (t : Table). t.log) (stays told at) ∙ keep.logs at in
        let same : (new.told at).jobs ≡ (start.told at).jobs = ap (λ (t : Table). t.jobs) (stays told at) ∙ keep.jobs at in
        subst (λ l. HasItsJobs (types_of s.schema) l (new.told at).jobs) (sym log)
        (subst (HasItsJobs (types_of s.schema) (start.told at).log) (sym same) (jobs told at here));
  }

  pub refused_over : IsLater start mid → (fail : KeepFail) → (fail ≡ keep.Failed → Rose mid.faults new.faults)
      → RefusesOpening tells s line start new (open_refusal fail)
  refused_over later keep.Failed cause = refused_beginning tells s line start mid new opened later stays refusal.KeeperFault (cause refl)
  refused_over later keep.OutOfMemory cause = refused_beginning tells s line start mid new opened later stays refusal.OutOfMemory tt
