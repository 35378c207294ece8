-- Keepers with no stores: any line may open these, and they never fail.
use Rattle.std.proofs.Common.{◌≡◌, ℕ, zero, suc, ◌+◌, ◌<◌, nat_lt, Bool, true, false, List, [], ◌∷◌, Option, Some, None, refl, sym, ap, ◌∙◌, arith}
use Rattle.std.specs.List.{AllByRecursion, sum_by}
use Rattle.std.specs.Option.{option_map_or}
use Rattle.std.specs.Prelude.{if◌then◌else◌, slice_get, length, unwrap_or}
use Rattle.core_model.specs.Stores.{master_log, master_store, stores_in}
use Rattle.counts.specs.Count.{Rose}
use Rattle.graph_model.specs.Soundness.{EdgeUpdate}
use Rattle.keepers.specs.Shown.{place_of, told_in, total}
use Rattle.keepers.specs.Steady.{shown_steady}
use Rattle.keepers.specs.declared.steady.SteadyKeeper.{SteadyKeeper}
use Rattle.cluster_opening.specs.declared.opening.OpenFail.{OpenFail}
use Rattle.new_stores.specs.Empty.{HasNoStores, RefusesNewStores, steady_faults, tables_of}
use Rattle.master_tables.specs.Masters.{each_shard}
use Rattle.tao_base.specs.declared.entry.Entry.{Entry}
use Rattle.tao_base.specs.declared.id.StoreName.{StoreName}
use Rattle.tao_keeper.specs.Table.{Table, Tables, empty_table}
use Rattle.tao_schema.specs.Schema.{types_of}
use Rattle.topology.specs.Config.{Settings}
use Rattle.cluster_opening.specs.locked_nodes.core_nodes.Opening.{MayOpen, RefusesOpening}
use Rattle.replies.specs.declared.opening.OpenRefusal.{OpenRefusal}
use Rattle.replies.specs.declared.opening.OpenRefusal.TheVariants as refusal
use Rattle.tao_keeper.specs.KeeperState.{KeeperState}
use Rattle.write_model.proofs.CoverEmpty.{empty_stores_are_kept}
use Rattle.write_model.specs.Merges.{log_of}

-- each store is empty
pub told_none : (shards : ℕ) (keepers : List SteadyKeeper) → AllByRecursion HasNoStores keepers → (at : StoreName)
    → told_in shown_steady shards keepers at ≡ empty_table
told_none shards keepers none at = by keepers none (place_of shards at)
  where
    by : (ks : List SteadyKeeper) → AllByRecursion HasNoStores ks → (place : ℕ)
        → option_map_or (λ k. (shown_steady k).told at) (slice_get ks place) empty_table ≡ empty_table
    by [] none zero = refl
    by [] none (suc place) = refl
    by (k ∷ ks) none zero = none.0 at
    by (k ∷ ks) none (suc place) = by ks none.1 place

no_logs : (log : ℕ → List Entry) (from n shard : ℕ) → ((i : ℕ) → log i ≡ []) → log_of (each_shard log from n) shard ≡ []
no_logs log from zero shard none = refl
no_logs log from (suc n) zero none = none from
no_logs log from (suc n) (suc shard) none = no_logs log (from + 1) n shard none

no_job : (open_there : Bool) (job : Option (List EdgeUpdate)) → job ≡ None → (if open_there then job else None) ≡ None
no_job true job none = none
no_job false job none = refl

-- with empty stores no logs and no jobs are there to be out of order
pub empty_may_open : (s : Settings) (keepers : List SteadyKeeper) → AllByRecursion HasNoStores keepers → (line : List ℕ) → MayOpen s line (tables_of s keepers)
empty_may_open s keepers none line ready =
    let tables : Tables = told_in shown_steady s.shards keepers in
    let empty : (at : StoreName) → tables at ≡ empty_table = told_none s.shards keepers none in
    record {
      kept = empty_stores_are_kept.kept (types_of s.schema) (stores_in s tables)
          (λ shard. no_logs (master_log s tables) 0 s.shards shard (λ i. ap (λ t. t.log) (empty (master_store s i))))
          (λ shard position. no_job (nat_lt shard s.shards) ((tables (master_store s shard)).jobs position)
          (ap (λ t. t.jobs position) (empty (master_store s shard))))
          (λ shard. omega arith);
      cuts = record { come = λ at other here there same. (let none : (tables other).cut ≡ 0 = ap (λ (t : Table). t.cut) (empty other) in omega (arith, none)) };
    }

-- no store has a job
pub no_jobs : (shards : ℕ) (keepers : List SteadyKeeper) → AllByRecursion HasNoStores keepers → (at : StoreName) (position : ℕ)
    → (told_in shown_steady shards keepers at).jobs position ≡ None
no_jobs shards keepers none at position = ap (λ (t : Table). t.jobs position) (told_none shards keepers none at)

-- ---- these keepers never fail

no_fault : (keepers : List SteadyKeeper) → sum_by (λ keeper. (shown_steady keeper).faults) keepers ≡ 0
no_fault [] = refl
no_fault (k ∷ ks) = no_fault ks

pub none_rose : (old new : List SteadyKeeper) → Rose (steady_faults old) (steady_faults new) → ⊥
none_rose old new rose =
    let before = no_fault old in
    let after = no_fault new in
    omega (arith, rose, before, after)

-- what keepers show together, after so many calls on stores that none stands for
abbrev pub shown_so : Settings → ℕ → List SteadyKeeper → KeeperState
shown_so s strays keepers = record {
  told = tables_of s keepers;
  calls = total (λ keeper. (shown_steady keeper).calls) strays keepers;
  faults = total (λ keeper. (shown_steady keeper).faults) strays keepers;
}

-- so stores with nothing in them are refused for want of memory alone: none was opened with another line, and none disagrees with another
pub open_refused : (s : Settings) (line : List ℕ) (before after : KeeperState) (reason : OpenRefusal) → ((at : StoreName) → before.told at ≡ empty_table)
    → (reason ≡ refusal.KeeperFault → ⊥) → RefusesOpening true s line before after reason → reason ≡ refusal.OutOfMemory
open_refused s line before after refusal.OtherLine empty own refused =
    let other = refused refl in
    absurd (other.other (ap (λ (t : Table). unwrap_or t.line line) (empty other.store)))
open_refused s line before after refusal.KeeperFault empty own refused = absurd (own refl)
open_refused s line before after (refusal.Disagree at position) empty own refused =
    let differs = (refused.1 refl).disagrees.differs in
    let none : length (before.told at).log ≡ 0 = ap (λ (t : Table). length t.log) (empty at) in
    absurd (let some = differs.some in let within = differs.within in omega (arith, none))
open_refused s line before after refusal.OutOfMemory empty own refused = refl

-- so new keepers are refused for want of memory alone
pub never_refused : (s : Settings) (line : List ℕ) (fail : OpenFail SteadyKeeper) → RefusesNewStores s line fail → fail.why ≡ refusal.OutOfMemory
never_refused s line fail new =
    open_refused s line (shown_so s 0 new.old) (shown_so s new.refused.strays fail.keepers.items) fail.why (told_none s.shards new.old new.none)
    (λ is. none_rose new.old fail.keepers.items (new.own is)) new.refused.refused
