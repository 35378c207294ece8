-- What the keepers' tables allow, they still allow once stores were opened.
use Rattle.std.proofs.Common.{◌≡◌, ℕ, zero, suc, ◌+◌, nat_lt, ◌⊎◌, Bool, true, false, List, [], Option, Some, None, Ok, unwrap_or, refl}
use Rattle.std.proofs.Common.{sym, ap, subst, ◌∙◌, inl, inr, arith}
use Rattle.tao_keeper.specs.KeeperState.{KeeperState}
use Rattle.std.specs.Prelude.{if◌then◌else◌}
use Rattle.config_json.specs.Config.{config_in}
use Rattle.graph_model.specs.Soundness.{EdgeUpdate}
use Rattle.graph_model.specs.Told.{WhereTold}
use Rattle.master_tables.specs.Masters.{each_shard}
use Rattle.tao_base.specs.declared.entry.Entry.{Entry}
use Rattle.tao_base.specs.declared.id.StoreName.{StoreName}
use Rattle.tao_core.specs.Core.{CoreState, IsCoreOf}
use Rattle.core_nodes.specs.Opening.{AreOpened, IsFirst, IsOpened, RefusesOpening}
use Rattle.core_nodes.proofs.OpenedLogs.{opened_grow, opened_keep}
use Rattle.core_nodes.proofs.OpenLemmas.{all_first, first_or_other}
use Rattle.core_model.proofs.KeptStores.{kept_same}
use Rattle.core_model.proofs.PastCuts.{come_on}
use Rattle.core_model.specs.Stores.{master_log, master_store, store_count, store_place, stores_in}
use Rattle.tao_keeper.proofs.Growing.{grow_in_turn, stays_grow}
use Rattle.tao_keeper.specs.Growing.{CutsStay}
use Rattle.tao_keeper.specs.Table.{Table, Tables, OpensAs, after_open, empty_table}
use Rattle.tao_keeper.specs.declared.keeper.Opened.TheVariants.{Ready}
use Rattle.tao_schema.specs.Schema.{types_of}
use Rattle.tao_top.specs.Kept.{AreOpenedWith, LeavesTables, MayBeginAny, MayServe, StillBegin}
use Rattle.replies.specs.declared.opening.OpenRefusal.{OpenRefusal}
use Rattle.replies.specs.declared.opening.OpenRefusal.TheVariants as refusal
use Rattle.topology.specs.Config.{Settings}
use Rattle.write_model.proofs.CoverEmpty.{empty_stores_are_kept}
use Rattle.write_model.specs.Merges.{log_of}

-- ---- one table

-- a store that takes a line once it is open took it before
ready_before : (table : Table) (line other : List ℕ) → OpensAs Ready (after_open table line) other → OpensAs Ready table other
ready_before table line other ready = by_line table.line refl
  where
    by_line : (first : Option (List ℕ)) → table.line ≡ first → OpensAs Ready table other
    by_line None none = ap (λ o. unwrap_or o other) none
    by_line (Some first) some = ap (λ o. unwrap_or o other) some ∙ sym (ap (λ o. unwrap_or o line) some) ∙ ready

-- ---- all tables

no_logs : (log : ℕ → List Entry) (from n shard : ℕ) → ((i : ℕ) → log i ≡ []) → log_of (each_shard log from n) shard ≡ []
no_logs log from zero shard none = refl
no_logs log from (suc n) zero none = none from
no_logs log from (suc n) (suc shard) none = no_logs log (from + 1) n shard none

no_job : (open_there : Bool) (job : Option (List EdgeUpdate)) → job ≡ None → (if open_there then job else None) ≡ None
no_job true job none = none
no_job false job none = refl

-- with stores that were not opened yet a run may begin with any line
pub empty_kept : (tables : Tables) → ((at : StoreName) → tables at ≡ empty_table) → MayBeginAny tables
empty_kept tables empty line s configured ready = record {
  kept = empty_stores_are_kept.kept (types_of s.schema) (stores_in s tables)
      (λ shard. no_logs (master_log s tables) 0 s.shards shard (λ i. ap (λ t. t.log) (empty (master_store s i))))
      (λ shard position. no_job (nat_lt shard s.shards) ((tables (master_store s shard)).jobs position)
      (ap (λ t. t.jobs position) (empty (master_store s shard))))
      (λ shard. omega arith);
  cuts = record { come = λ at other here there same. (let none : (tables other).cut ≡ 0 = ap (λ (t : Table). t.cut) (empty other) in omega (arith, none)) };
}

-- what opens stores cuts no log
cuts_stay_opened : (s : Settings) (line : List ℕ) (count : ℕ) (old new : Tables) → AreOpened s line count old new → CutsStay true old new
cuts_stay_opened s line count old new opened = record { cuts = λ told at. by at (first_or_other s count at) }
  where
    by : (at : StoreName) → IsFirst s count at ⊎ (IsFirst s count at → ⊥) → (new at).cut ≡ (old at).cut
    by at (inl first) = ap (λ (t : Table). t.cut) (opened.stores at first)
    by at (inr none) = ap (λ (t : Table). t.cut) (opened.others at none)

-- with stores that were opened a run may begin as before
pub still_opened : (s : Settings) (line : List ℕ) (count : ℕ) (old new : Tables) → AreOpened s line count old new → StillBegin old new
still_opened s line count old new opened other may t configured ready =
    let was = may t configured (λ at first. ready_at at (first_or_other s count at) (ready at first)) in
    record {
      kept = kept_same t old new (opened_keep s line count old new opened) was.kept;
      cuts = come_on t old new (opened_grow true s line count old new (λ told. opened)) (cuts_stay_opened s line count old new opened) was.cuts;
    }
  where
    ready_at : (at : StoreName) → IsFirst s count at ⊎ (IsFirst s count at → ⊥)
        → OpensAs Ready (new at) other → OpensAs Ready (old at) other
    ready_at at (inl first) ready =
        ready_before (old at) line other (subst (λ x. OpensAs Ready x other) (opened.stores at first) ready)
    ready_at at (inr none) ready = subst (λ x. OpensAs Ready x other) (opened.others at none) ready

-- nothing changes
pub leaves_same : (tells : Bool) (keepers : KeeperState) → LeavesTables tells keepers keepers
leaves_same tells keepers = record { histories = stays_grow tells keepers.told keepers.told (λ told at. refl); still = λ told line may. may }

-- one thing after another
pub leaves_then : (tells : Bool) (old mid new : KeeperState) → LeavesTables tells old mid → LeavesTables tells mid new → LeavesTables tells old new
leaves_then tells old mid new first second = record {
  histories = grow_in_turn tells old.told mid.told new.told first.histories second.histories;
  still = λ told line may. second.still told line (first.still told line may);
}

-- so it may where the opening stopped
pub still_refused : (tells : Bool) (s : Settings) (line : List ℕ) (old new : KeeperState) (refused : OpenRefusal) → RefusesOpening tells s line old new refused
    → WhereTold tells (StillBegin old.told new.told)
still_refused tells s line old new refusal.KeeperFault h = λ told. let part = h.1 told in still_opened s line part.count old.told new.told part.opened
still_refused tells s line old new refusal.OtherLine h = λ told.
    let other = h told in
    still_opened s line (store_place s other.store + 1) old.told new.told other.opened
still_refused tells s line old new (refusal.Disagree at position) h = λ told.
    let opened = (h.1 told).opened in
    still_opened s line (store_count s) old.told new.told opened.opened
still_refused tells s line old new refusal.OutOfMemory h = λ told. let part = h told in still_opened s line part.count old.told new.told part.opened

-- ---- a core that serves

opened_with : (s : Settings) (line : List ℕ) (old new : Tables) → config_in line ≡ Ok s → IsOpened s line old new → AreOpenedWith s new
opened_with s line old new configured opened = λ at here. record {
  line = line;
  first = ap (λ t. t.line) (opened.opened.stores at (all_first s at here)) ∙ ap (λ l. Some l) (opened.ready at (all_first s at here));
  configured = configured;
}

pub serves_opened : (tells : Bool) (s : Settings) (line : List ℕ) (core : CoreState) (old new : Tables) → config_in line ≡ Ok s → core.settings ≡ s
    → WhereTold tells (IsOpened s line old new)
    → IsCoreOf tells new core → MayServe tells core new
serves_opened tells s line core old new configured is opened of_core = record {
  of_core = of_core;
  opened = λ told. subst (λ t. AreOpenedWith t new) (sym is) (opened_with s line old new configured (opened told));
}
