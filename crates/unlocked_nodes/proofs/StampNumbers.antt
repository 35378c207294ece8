-- The numbers of the stamps that entries give.
use Rattle.std.proofs.Common.{◌≡◌, ℕ, zero, suc, ◌+◌, ◌-◌, ◌≤◌, ◌<◌, List, [], ◌∷◌, Option, Some, None, inl, inr, length, refl, ap, subst, arith}
use Rattle.std.proofs.lemmas.List.Elements.{recursion_from_All}
use Rattle.std.proofs.lemmas.List.Sums.{sum_by-append}
use Rattle.std.specs.List.{AllByRecursion, cons_option, sum_by}
use Rattle.std.specs.Prelude.{All, Contains, filter_map, slice_get}
use Rattle.core_model.specs.Stores.{master_log, master_store, stores_in}
use Rattle.graph_model.proofs.Members.{IsIn, in_from_contains}
use Rattle.graph_model.specs.Log.{entry_at}
use Rattle.graph_model.specs.Soundness.{EdgeUpdate, update_at, updates_of}
use Rattle.master_tables.specs.Masters.{each_shard}
use Rattle.tao_base.specs.Stamps.{stamp_of}
use Rattle.tao_base.specs.declared.entry.Change.{Change}
use Rattle.tao_base.specs.declared.entry.Change.TheVariants.{PutObject, DropObject, SetEdge, CutEdge}
use Rattle.tao_base.specs.declared.entry.Entry.{Entry}
use Rattle.tao_base.specs.declared.entry.Touch.{Touch}
use Rattle.tao_base.specs.declared.id.Key.{Key}
use Rattle.tao_base.specs.declared.id.Key.TheVariants.{Obj, List as Assocs}
use Rattle.tao_keeper.specs.Table.{Stays, Table, Tables}
use Rattle.topology.specs.Config.{Settings}
use Rattle.write_model.specs.Merges.{entries_ever}
use Rattle.unlocked_nodes.specs.Looking.{AreNumbersWithin, IsNumberWithin, number_in}

-- a change's record has the stamp that the change gives
number_of_change : (key : Key) (change : Change) (u : EdgeUpdate) → update_at key change ≡ Some u → (stamp_of u.3).number ≡ number_in change
number_of_change (Assocs id1 atype) (SetEdge edge was) u is = subst (λ (x : EdgeUpdate). (stamp_of x.3).number ≡ edge.stamp.number) (one is) refl
  where
    one : {X : Type 0} {x y : X} → Some x ≡ Some y → x ≡ y
    one e = cc
number_of_change (Assocs id1 atype) (CutEdge id2 stamp was) u is = subst (λ (x : EdgeUpdate). (stamp_of x.3).number ≡ stamp.number) (one is) refl
  where
    one : {X : Type 0} {x y : X} → Some x ≡ Some y → x ≡ y
    one e = cc
number_of_change (Assocs id1 atype) (PutObject object) u is = absurd (cc)
number_of_change (Assocs id1 atype) DropObject u is = absurd (cc)
number_of_change (Obj id) change u is = absurd (cc)

-- of records, of which the first may be that of a change
within_more : (limit : ℕ) (key : Key) (change : Change) (later : List EdgeUpdate) (u : EdgeUpdate) → number_in change ≤ limit
    → (IsIn u later → (stamp_of u.3).number ≤ limit) → (o : Option EdgeUpdate) → update_at key change ≡ o → IsIn u (cons_option o later)
    → (stamp_of u.3).number ≤ limit
within_more limit key change later u first rest None is h = rest h
within_more limit key change later u first rest (Some v) is (inl same) =
    let number = number_of_change key change v is in
    subst (λ (x : EdgeUpdate). (stamp_of x.3).number ≤ limit) same (omega (arith, first, number))
within_more limit key change later u first rest (Some v) is (inr h) = rest h

within_touches : (limit : ℕ) (touches : List Touch) (u : EdgeUpdate) → AllByRecursion (IsNumberWithin limit) touches
    → IsIn u (filter_map (λ (t : Touch). update_at t.key t.change) touches) → (stamp_of u.3).number ≤ limit
within_touches limit [] u all h = absurd h
within_touches limit (t ∷ ts) u all h =
    within_more limit t.key t.change (filter_map (λ (x : Touch). update_at x.key x.change) ts) u all.0 (within_touches limit ts u all.1)
    (update_at t.key t.change) refl h

entry_within : (limit : ℕ) (log : List Entry) (place : ℕ) (e : Entry) → AllByRecursion (AreNumbersWithin limit) log → slice_get log place ≡ Some e
    → AreNumbersWithin limit e
entry_within limit [] place e all at = absurd (cc)
entry_within limit (x ∷ xs) zero e all at = let same : x ≡ e = cc in subst (AreNumbersWithin limit) same all.0
entry_within limit (x ∷ xs) (suc place) e all at = entry_within limit xs place e all.1 at

-- where no stamp of a log has a number above this one, no record that it writes does
pub number_fits : (limit : ℕ) (log : List Entry) (position : ℕ) (e : Entry) (u : EdgeUpdate) → All (AreNumbersWithin limit) log
    → entry_at log position ≡ Some e → Contains (updates_of e) u → (stamp_of u.3).number ≤ limit
number_fits limit log zero e u all at writes = absurd (cc)
number_fits limit log (suc place) e u all at writes =
    let within = entry_within limit log place e (recursion_from_All (AreNumbersWithin limit) log all) at in
    within_touches limit e.touches u (recursion_from_All (IsNumberWithin limit) e.touches within) (in_from_contains (updates_of e) u writes)

-- ---- how many entries there are

-- those so far, with those of the shard and those that are left
pub sum_next : (s : Settings) (start now : Tables) (shard sum length_is total : ℕ) → shard < s.shards → Stays start now
    → length_is ≡ length (master_log s now shard) → total ≤ sum + length_is
    → sum + sum_by length (each_shard (master_log s start) shard (s.shards - shard)) ≤ entries_ever (stores_in s start)
    → total + sum_by length (each_shard (master_log s start) (shard + 1) (s.shards - (shard + 1))) ≤ entries_ever (stores_in s start)
sum_next s start now shard sum length_is total lt stays is few was =
    let left : s.shards - shard ≡ suc (s.shards - (shard + 1)) = omega (arith, lt) in
    let same : length (master_log s now shard) ≡ length (master_log s start shard) = ap (λ (t : Table). length t.log) (stays (master_store s shard)) in
    let rest = each_shard (master_log s start) (shard + 1) (s.shards - (shard + 1)) in
    let whole : sum_by length (each_shard (master_log s start) shard (s.shards - shard)) ≡ sum_by length (master_log s start shard ∷ rest)
    = ap (λ n. sum_by length (each_shard (master_log s start) shard n)) left in
    let parts : sum_by length (master_log s start shard ∷ rest) ≡ sum_by length (master_log s start shard ∷ []) + sum_by length rest
    = sum_by-append length (master_log s start shard ∷ []) rest in
    omega (arith, few, was, whole, parts, same, is)
