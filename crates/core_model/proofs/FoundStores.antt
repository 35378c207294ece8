-- The stores of a configuration are found by their names and roles, and go on while one of them changes.
use Rattle.std.proofs.Common.{◌≡◌, ◌⊎◌, ℕ, zero, suc, ◌<◌, Bool, true, false, List, [], ◌∷◌, length, Option, Some, None, refl, ap, sym, ◌∙◌, subst}
use Rattle.std.proofs.Common.{inl, inr, arith, mul_comm}
use Rattle.std.proofs.lemmas.Bool.{and_parts, cases_Bool, eq-eqb, eqb-true}
use Rattle.std.proofs.lemmas.List.{length-set}
use Rattle.std.proofs.lemmas.Nat.{div-mul-add, mod-mul-add, mul-add-lt}
use Rattle.std.specs.Prelude.{◌==◌, ◌&&◌, ◌/◌, ◌%◌, find, slice_get, slice_set}
use Rattle.graph_model.specs.Told.{WhereTold}
use Rattle.shard_log.proofs.GrowthLemmas.{grows-self}
use Rattle.shard_log.specs.View.{Grows}
use Rattle.leader_tier.specs.shard_tables.StoreView.{Store}
use Rattle.leader_tier.specs.shard_tables.Stores.{HasSeen, IsStoreOf}
use Rattle.leader_tier.specs.shard_tables.declared.store.StoreRole.{StoreRole}
use Rattle.leader_tier.specs.shard_tables.declared.store.StoreRole.TheVariants.{Master, Slave}
use Rattle.tao_base.specs.declared.id.StoreName.{StoreName}
use Rattle.tao_keeper.specs.Table.{Table, Tables}
use Rattle.topology.specs.Config.{Settings}
use Rattle.core_model.specs.Pens.{IsSeen, Rise, is_called, is_master, is_master_for, master_in, pens_of, store_in, view_or_none}
use Rattle.core_model.specs.StoreLaws.{IsFoundAt, OtherTablesStay, StoreGoesOn, StoresAreFound, StoresGoOn}
use Rattle.core_model.specs.Stores.{AreStores, FollowMasters, HaveSeen, IsConfiguredStore, IsStoreAt, master_of, master_store, role_in, store_count}
use Rattle.core_model.specs.Stores.{store_place}
use Rattle.core_model.proofs.NodesSeen.{seen-rises}
use Rattle.core_model.proofs.Places.{get_set, one_some, set_get}

-- ---- what is found in a list

-- what is found stands at a place, and passes
pub found_at : {X : Type 0} (test : X → Bool) (xs : List X) (x : X) → find test xs ≡ Some x → (k : ℕ) × (slice_get xs k ≡ Some x) × (test x ≡ true)
found_at test [] x h = absurd (cc)
found_at test (y ∷ ys) x h = elim (cases_Bool (test y)) [
  | inl passes ↦ (
      let same : y ≡ x = one_some y x (rw passes at h) in
      (0, ap Some same, subst (λ z. test z ≡ true) same passes))
  | inr fails ↦ (let later = found_at test ys x (rw fails at h) in (suc later.0, later.1, later.2))
]

-- the only one that passes is found
pub only_found : {X : Type 0} (test : X → Bool) (xs : List X) (k : ℕ) (x : X) → slice_get xs k ≡ Some x → test x ≡ true
    → ((n : ℕ) (y : X) → slice_get xs n ≡ Some y → test y ≡ true → n ≡ k) → find test xs ≡ Some x
only_found test [] k x h passes only = absurd (cc)
only_found test (y ∷ ys) zero x h passes only =
    let same : y ≡ x = one_some y x h in
    let first : test y ≡ true = subst (λ z. test z ≡ true) (sym same) passes in
    rw first (ap Some same)
only_found test (y ∷ ys) (suc k) x h passes only = elim (cases_Bool (test y)) [
  | inl first ↦ absurd (let e = only 0 y refl first in omega arith)
  | inr fails ↦ rw fails (only_found test ys k x h passes (λ n z at is. let e = only (suc n) z at is in omega arith))
]

-- once an element changes the same is found, or it where the element was found
abbrev FindsOn : {X : Type 0} → (X → Bool) → List X → ℕ → X → X → Type 0
FindsOn test xs k x y = (find test (slice_set xs k y) ≡ find test xs) ⊎ ((find test xs ≡ Some x) × (find test (slice_set xs k y) ≡ Some y))

finds_on : {X : Type 0} (test : X → Bool) (xs : List X) (k : ℕ) (x y : X) → slice_get xs k ≡ Some x → test y ≡ test x → FindsOn test xs k x y
finds_on test [] k x y h same = absurd (cc)
finds_on test (z ∷ zs) zero x y h same =
    subst (λ w. FindsOn test (w ∷ zs) zero x y) (sym (one_some z x h)) (elim (cases_Bool (test x)) [
      | inl passes ↦ rw (same, passes) (inr (refl, refl))
      | inr fails ↦ rw (same, fails) (inl refl)
    ])
finds_on test (z ∷ zs) (suc k) x y h same = elim (cases_Bool (test z)) [
  | inl passes ↦ rw passes (inl refl)
  | inr fails ↦ rw fails (finds_on test zs k x y h same)
]

-- ---- names and places

-- stores are the same by their regions and shards
pub same_name : (a b : StoreName) → a.region ≡ b.region → a.shard ≡ b.shard → a ≡ b
same_name a b region shard = λ i. record { region = region i; shard = shard i }

pub is_called_so : (at : StoreName) (store : Store) → is_called at store ≡ true → store.name ≡ at
is_called_so at store is =
    let parts = and_parts (store.name.region == at.region) (store.name.shard == at.shard) is in
    same_name store.name at (eqb-true store.name.region at.region parts.0) (eqb-true store.name.shard at.shard parts.1)

called_so : (at : StoreName) (store : Store) → store.name ≡ at → is_called at store ≡ true
called_so at store is =
    rw (eq-eqb store.name.region at.region (ap (λ n. n.region) is), eq-eqb store.name.shard at.shard (ap (λ n. n.shard) is)) refl

-- a master is known by its role
pub is_master_so : (role : StoreRole) → is_master role ≡ true → role ≡ Master
is_master_so Master is = refl
is_master_so Slave is = absurd (cc)

pub by_place : (s : Settings) (count : ℕ) (stores : List Store) (n k : ℕ) (x y : Store) → AreStores s count stores → slice_get stores n ≡ Some x
    → slice_get stores k ≡ Some y → x.name ≡ y.name → n ≡ k
by_place s count stores n k x y are at_n at_k same =
    (are.each n x at_n).place_is ∙ ap (store_place s) same ∙ sym (are.each k y at_k).place_is

module _ (s : Settings) (stores : List Store) (are : AreStores s (store_count s) stores) where
  -- the store at the place of a name has it
  place_named : (at : StoreName) (store : Store) → IsConfiguredStore s at → slice_get stores (store_place s at) ≡ Some store → store.name ≡ at
  place_named at store here stands =
      let is = are.each (store_place s at) store stands in
      same_name store.name at
      (sym (div-mul-add store.name.region s.shards store.name.shard is.here.shard) ∙ ap (λ n. n / s.shards) (sym is.place_is)
      ∙ div-mul-add at.region s.shards at.shard here.shard)
      (sym (mod-mul-add store.name.region s.shards store.name.shard is.here.shard) ∙ ap (λ n. n % s.shards) (sym is.place_is)
      ∙ mod-mul-add at.region s.shards at.shard here.shard)

  -- and is found by it
  place_found : (at : StoreName) (store : Store) → slice_get stores (store_place s at) ≡ Some store → store.name ≡ at → IsFoundAt s stores at store
  place_found at store stands named = record {
    stands = stands;
    name_is = named;
    found = only_found (is_called at) stores (store_place s at) store stands (called_so at store named)
        (λ n y at_n is. by_place s (store_count s) stores n (store_place s at) y store are at_n stands (is_called_so at y is ∙ sym named));
  }

  pub named_stands : (at : StoreName) → IsConfiguredStore s at → (store : Store) × IsFoundAt s stores at store
  named_stands at here =
      let most = mul-add-lt at.region s.shards at.shard (length s.regions) here.region here.shard in
      let lt : store_place s at < length stores = omega (arith, most, are.long, mul_comm (length s.regions) s.shards) in
      by_get (slice_get stores (store_place s at)) refl lt
    where
      by_get : (o : Option Store) → slice_get stores (store_place s at) ≡ o → store_place s at < length stores → (store : Store) × IsFoundAt s stores at store
      by_get None none lt = absurd (none_at stores (store_place s at) lt none)
        where
          none_at : (xs : List Store) (k : ℕ) → k < length xs → slice_get xs k ≡ None → ⊥
          none_at [] k lt h = omega arith
          none_at (x ∷ xs) zero lt h = cc
          none_at (x ∷ xs) (suc k) lt h = none_at xs k (omega arith) h
      by_get (Some store) stands lt = (store, place_found at store stands (place_named at store here stands))

  called_stands : (at : StoreName) (store : Store) → store_in stores at ≡ Some store → IsFoundAt s stores at store
  called_stands at store found =
      let there = found_at (is_called at) stores store found in
      let named = is_called_so at store there.2 in
      let place : there.0 ≡ store_place s at = (are.each there.0 store there.1).place_is ∙ ap (store_place s) named in
      place_found at store (subst (λ k. slice_get stores k ≡ Some store) place there.1) named

  -- the role of a master's store is that of its region
  master_role : (shard : ℕ) (store : Store) → IsFoundAt s stores (master_store s shard) store → store.role ≡ Master
  master_role shard store is =
      let role = (are.each (store_place s (master_store s shard)) store is.stands).role_is in
      role ∙ ap (role_in s) is.name_is ∙ by_test (eq-eqb (master_of s shard) (master_of s shard) refl)
    where
      by_test : (master_of s shard == master_of s shard) ≡ true → role_in s (master_store s shard) ≡ Master
      by_test same = rw same refl

  -- a store that makes writes is of its shard's master region
  master_region : (k : ℕ) (store : Store) → slice_get stores k ≡ Some store → store.role ≡ Master → store.name ≡ master_store s store.name.shard
  master_region k store stands role =
      same_name store.name (master_store s store.name.shard) (by_test (cases_Bool (store.name.region == master_of s store.name.shard))) refl
    where
      by_test : ((store.name.region == master_of s store.name.shard) ≡ true) ⊎ ((store.name.region == master_of s store.name.shard) ≡ false)
          → store.name.region ≡ master_of s store.name.shard
      by_test (inl same) = eqb-true store.name.region (master_of s store.name.shard) same
      by_test (inr other) =
          let slave : role_in s store.name ≡ Slave = rw other refl in
          absurd (let both : Master ≡ Slave = sym role ∙ (are.each k store stands).role_is ∙ slave in cc)

  for_shard : (shard : ℕ) (store : Store) → is_master_for shard store ≡ true → (store.name.shard ≡ shard) × (store.role ≡ Master)
  for_shard shard store is =
      let parts = and_parts (store.name.shard == shard) (is_master store.role) is in
      (eqb-true store.name.shard shard parts.0, is_master_so store.role parts.1)

  of_shard : (shard k : ℕ) (store : Store) → slice_get stores k ≡ Some store → is_master_for shard store ≡ true → store.name ≡ master_store s shard
  of_shard shard k store stands is =
      let parts = for_shard shard store is in
      master_region k store stands parts.1 ∙ ap (master_store s) parts.0

  pub master_found : (shard : ℕ) (store : Store) → IsFoundAt s stores (master_store s shard) store
      → (store.role ≡ Master) × (master_in stores shard ≡ Some store)
  master_found shard store is =
      let role = master_role shard store is in
      let shard_is : (store.name.shard == shard) ≡ true = eq-eqb store.name.shard shard (ap (λ n. n.shard) is.name_is) in
      let master : is_master store.role ≡ true = ap is_master role in
      let passes : is_master_for shard store ≡ true = rw (shard_is, master) refl in (
        role,
        only_found (is_master_for shard) stores (store_place s (master_store s shard)) store is.stands passes
            (λ n y at_n other. by_place s (store_count s) stores n (store_place s (master_store s shard)) y store are at_n is.stands
            (of_shard shard n y at_n other ∙ sym is.name_is)),
      )

  found_master : (shard : ℕ) (store : Store) → master_in stores shard ≡ Some store → IsFoundAt s stores (master_store s shard) store
  found_master shard store found =
      let there = found_at (is_master_for shard) stores store found in
      let named = of_shard shard there.0 store there.1 there.2 in
      let place : there.0 ≡ store_place s (master_store s shard) = (are.each there.0 store there.1).place_is ∙ ap (store_place s) named in
      place_found (master_store s shard) store (subst (λ k. slice_get stores k ≡ Some store) place there.1) named

pub stores_are_found : (s : Settings) (stores : List Store) → StoresAreFound s stores
stores_are_found s stores = record {
  named = λ at are here. named_stands s stores are at here;
  called = λ at store are found. called_stands s stores are at store found;
  master = λ shard store are is. master_found s stores are shard store is;
  by_role = λ shard store are found. found_master s stores are shard store found;
}

-- ---- one of them changes

module _ (stores : List Store) (place : ℕ) (old new : Store) (stands : slice_get stores place ≡ Some old) (goes : StoreGoesOn old new) where
  -- it makes the writes of the same shard
  same_test : (shard : ℕ) → is_master_for shard new ≡ is_master_for shard old
  same_test shard = ap (λ (n : StoreName). (n.shard == shard) && is_master new.role) goes.name_is
      ∙ ap (λ r. (old.name.shard == shard) && is_master r) goes.role_is

  rises : Rise (pens_of stores) (pens_of (slice_set stores place new))
  rises shard = elim (finds_on (is_master_for shard) stores place old new stands (same_test shard)) [
    | inl same ↦ subst (λ o. Grows (pens_of stores shard) (view_or_none o)) (sym same) (grows-self (pens_of stores shard))
    | inr changed ↦
        subst (λ o. Grows (view_or_none o) (pens_of (slice_set stores place new) shard)) (sym changed.0)
        (subst (λ o. Grows old.view (view_or_none o)) (sym changed.1) goes.grows)
  ]

  set_stands : slice_get (slice_set stores place new) place ≡ Some new
  set_stands = set_get stores place old new stands

  store_set : (s : Settings) (n : ℕ) → IsStoreAt s n old → IsStoreAt s n new
  store_set s n was = record {
    place_is = was.place_is ∙ ap (store_place s) (sym goes.name_is);
    here = subst (IsConfiguredStore s) (sym goes.name_is) was.here;
    limit_is = goes.limit_is ∙ was.limit_is;
    epoch_is = goes.epoch_is ∙ was.epoch_is;
    role_is = goes.role_is ∙ was.role_is ∙ ap (role_in s) (sym goes.name_is);
  }

  stores_set : (s : Settings) (count : ℕ) → AreStores s count stores → AreStores s count (slice_set stores place new)
  stores_set s count are = record {
    long = length-set stores place new ∙ are.long;
    each = λ n store h. elim (get_set stores place new n store h) [
      | inl e ↦ are.each n store e.1
      | inr e ↦ (
          let was : IsStoreAt s n old = subst (λ k. IsStoreAt s k old) (sym e.0) (are.each place old stands) in
          subst (IsStoreAt s n) e.1 (store_set s n was))
    ];
  }

  pen_is : (s : Settings) (shard : ℕ) → AreStores s (store_count s) stores → place ≡ store_place s (master_store s shard)
      → IsConfiguredStore s (master_store s shard) → pens_of (slice_set stores place new) shard ≡ new.view
  pen_is s shard are at here =
      let after = stores_set s (store_count s) are in
      let there : slice_get (slice_set stores place new) (store_place s (master_store s shard)) ≡ Some new =
      subst (λ k. slice_get (slice_set stores place new) k ≡ Some new) at set_stands in
      let named = place_named s (slice_set stores place new) after (master_store s shard) new here there in
      let found = place_found s (slice_set stores place new) after (master_store s shard) new there named in
      ap view_or_none (master_found s (slice_set stores place new) after shard new found).1

  slave_fails : new.role ≡ Slave → (shard : ℕ) → is_master_for shard old ≡ true → ⊥
  slave_fails slave shard passes =
      let parts = and_parts (old.name.shard == shard) (is_master old.role) passes in
      let none : is_master old.role ≡ false = ap is_master (sym goes.role_is ∙ slave) in
      absurd (let both : true ≡ false = sym parts.1 ∙ none in cc)

  slave_same : new.role ≡ Slave → (shard : ℕ) → pens_of (slice_set stores place new) shard ≡ pens_of stores shard
  slave_same slave shard = elim (finds_on (is_master_for shard) stores place old new stands (same_test shard)) [
    | inl same ↦ ap view_or_none same
    | inr changed ↦ absurd (slave_fails slave shard (found_at (is_master_for shard) stores old changed.0).2)
  ]

  follows : FollowMasters stores → IsSeen (pens_of (slice_set stores place new)) new.name.shard new.view → FollowMasters (slice_set stores place new)
  follows follow here n store h = elim (get_set stores place new n store h) [
    | inl e ↦ seen-rises (pens_of stores) (pens_of (slice_set stores place new)) store.name.shard store.view rises (follow n store e.1)
    | inr e ↦ subst (λ (x : Store). IsSeen (pens_of (slice_set stores place new)) x.name.shard x.view) e.1 here
  ]

  seen_set : (tells : Bool) (before after : Tables) → WhereTold tells (OtherTablesStay stores place before after) → IsStoreOf tells after new
      → HaveSeen tells before stores → HaveSeen tells after (slice_set stores place new)
  seen_set tells before after others is seen n store h = elim (get_set stores place new n store h) [
    | inl e ↦ record {
      told_is = (seen n store e.1).told_is;
      seen = λ told. subst (λ (t : Table). HasSeen store.role t.log store.view.entries) (sym (others told n store e.1 e.0)) ((seen n store e.1).seen told);
    }
    | inr e ↦ subst (IsStoreOf tells after) e.1 is
  ]

  pub stores_go_on : StoresGoOn stores place old new stands goes
  stores_go_on = record {
    are = stores_set;
    rise = rises;
    pen = pen_is;
    slave = λ role i shard. slave_same role shard i;
    follow = follows;
    seen = seen_set;
  }
