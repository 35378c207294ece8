-- Logs stay as they are where stores are opened.
use Rattle.std.proofs.Common.{◌≡◌, ◌⊎◌, ℕ, ◌+◌, Bool, true, List, length, take, refl, sym, ap, ◌∙◌, subst, inl, inr, arith}
use Rattle.std.proofs.lemmas.List.{take_all}
use Rattle.graph_model.specs.Told.{WhereTold}
use Rattle.tao_base.specs.declared.entry.Entry.{Entry}
use Rattle.tao_base.specs.declared.id.StoreName.{StoreName}
use Rattle.tao_keeper.specs.Growing.{CutsStay, LogsGrow}
use Rattle.tao_keeper.specs.KeeperState.{IsLater, KeeperState}
use Rattle.tao_keeper.specs.Table.{Stays, Table, Tables, after_open}
use Rattle.topology.specs.Config.{Settings}
use Rattle.replies.specs.declared.opening.OpenRefusal.{OpenRefusal}
use Rattle.replies.specs.declared.opening.OpenRefusal.TheVariants as refusal
use Rattle.core_model.proofs.KeptStores.{KeepLogsAndJobs, kept_same}
use Rattle.core_model.proofs.PastCuts.{come_on}
use Rattle.core_model.specs.Stores.{AreInOrder, master_log, master_store, store_count, store_place}
use Rattle.counts.proofs.Rises.{Rose-earlier}
use Rattle.region_stream.specs.Agreeing.{DiffersFirst}
use Rattle.shard_log.specs.View.{Begins}
use Rattle.core_nodes.specs.Opening.{AreOpened, DisagreesAt, IsFirst, IsOpened, IsOpenedInPart, IsUnmade, MayOpen, RefusesMaking, RefusesOpening}
use Rattle.core_nodes.proofs.OpenLemmas.{first_or_other, opened_kept, opened_stays}

-- what opens writes lines alone: any other field of a table stays
field_stays : {X : Type 0} (s : Settings) (line : List ℕ) (count : ℕ) (old new : Tables) → AreOpened s line count old new → (f : Table → X)
    → ((t : Table) → f (after_open t line) ≡ f t) → (at : StoreName) → IsFirst s count at ⊎ (IsFirst s count at → ⊥) → f (new at) ≡ f (old at)
field_stays s line count old new opened f same at (inl first) = ap f (opened.stores at first) ∙ same (old at)
field_stays s line count old new opened f same at (inr none) = ap f (opened.others at none)

pub opened_keep : (s : Settings) (line : List ℕ) (count : ℕ) (old new : Tables) → AreOpened s line count old new → KeepLogsAndJobs old new
opened_keep s line count old new opened = record {
  logs = λ at. field_stays s line count old new opened (λ t. t.log) (λ t. refl) at (first_or_other s count at);
  jobs = λ at. field_stays s line count old new opened (λ t. t.jobs) (λ t. refl) at (first_or_other s count at);
}

-- and logs go on
pub opened_grow : (tells : Bool) (s : Settings) (line : List ℕ) (count : ℕ) (old new : Tables) → WhereTold tells (AreOpened s line count old new)
    → LogsGrow tells old new
opened_grow tells s line count old new opened = record {
  begins = λ told at. begins_same (old at).log (new at).log ((opened_keep s line count old new (opened told)).logs at);
}
  where
    begins_same : (log same : List Entry) → same ≡ log → log ≡ take (length log) same
    begins_same log same is = subst (λ l. log ≡ take (length log) l) (sym is) (sym (take_all (length log) log (omega arith)))

-- so stores that may be opened are in order
pub opened_in_order : (s : Settings) (line : List ℕ) (old new : Tables) → MayOpen s line old → IsOpened s line old new → AreInOrder s new
opened_in_order s line old new may is =
    let opened = is.opened in
    let cuts : CutsStay true old new = record {
      cuts = λ told at. field_stays s line (store_count s) old new opened (λ t. t.cut) (λ t. refl) at (first_or_other s (store_count s) at);
    } in
    record {
      kept = kept_same s old new (opened_keep s line (store_count s) old new opened) (may is.ready).kept;
      cuts = come_on s old new (opened_grow true s line (store_count s) old new (λ told. opened)) cuts (may is.ready).cuts;
    }

-- logs go on also where the opening stopped
pub refused_grow : (tells : Bool) (s : Settings) (line : List ℕ) (old new : KeeperState) (refused : OpenRefusal) → RefusesOpening tells s line old new refused
    → LogsGrow tells old.told new.told
refused_grow tells s line old new refusal.KeeperFault h =
    record { begins = λ told. (opened_grow tells s line (h.1 told).count old.told new.told (λ t. (h.1 told).opened)).begins told }
refused_grow tells s line old new refusal.OtherLine h =
    record { begins = λ told. (opened_grow tells s line (store_place s (h told).store + 1) old.told new.told (λ t. (h told).opened)).begins told }
refused_grow tells s line old new (refusal.Disagree at position) h =
    record { begins = λ told. (opened_grow tells s line (store_count s) old.told new.told (λ t. (h.1 told).opened.opened)).begins told }
refused_grow tells s line old new refusal.OutOfMemory h =
    record { begins = λ told. (opened_grow tells s line (h told).count old.told new.told (λ t. (h told).opened)).begins told }

-- ---- the stores aren't made

-- the logs are the same, so the same store disagrees
disagrees_so : (s : Settings) (old mid : Tables) (at : StoreName) (position : ℕ) → KeepLogsAndJobs old mid → DisagreesAt s mid at position
    → DisagreesAt s old at position
disagrees_so s old mid at position keep is = record {
  differs = subst (λ l. DiffersFirst l (master_log s old at.shard) position) (keep.logs at)
      (subst (λ l. DiffersFirst (mid at).log l position) (keep.logs (master_store s at.shard)) is.differs);
  before = λ other here first.
      subst (λ l. Begins l (master_log s old other.shard)) (keep.logs other)
      (subst (λ l. Begins (mid other).log l) (keep.logs (master_store s other.shard)) (is.before other here first));
}

module _ (tells : Bool) (s : Settings) (line : List ℕ) (start old new : KeeperState) (is : WhereTold tells (IsOpened s line start.told old.told))
    (before : IsLater start old) (stays : WhereTold tells (Stays old.told new.told)) where
  -- all are open
  opened_all : WhereTold tells (IsOpenedInPart s line start.told new.told)
  opened_all told = record {
    count = store_count s;
    some = omega arith;
    opened = opened_stays s line (store_count s) start.told old.told new.told (is told).opened (stays told);
  }

  -- the stores aren't made
  pub refused_making : (r : OpenRefusal) → RefusesMaking tells s old new r → RefusesOpening tells s line start new r
  refused_making refusal.KeeperFault cause = (Rose-earlier start.faults old.faults new.faults before.faults cause, opened_all)
  refused_making refusal.OtherLine cause = absurd cause
  refused_making (refusal.Disagree at position) cause = (
    cause.0,
    λ told. record {
      opened = opened_kept s line start.told old.told new.told (is told) (stays told);
      disagrees = disagrees_so s start.told old.told at position (opened_keep s line (store_count s) start.told old.told (is told).opened) (cause.1 told);
    },
  )
  refused_making refusal.OutOfMemory cause = opened_all

  -- nor are the nodes
  pub refused_beginning : (r : OpenRefusal) → IsUnmade old.faults new.faults r → RefusesOpening tells s line start new r
  refused_beginning refusal.KeeperFault cause = (Rose-earlier start.faults old.faults new.faults before.faults cause, opened_all)
  refused_beginning refusal.OtherLine cause = absurd cause
  refused_beginning (refusal.Disagree at position) cause = absurd cause
  refused_beginning refusal.OutOfMemory cause = opened_all
