-- The stores of all shards, put in the order of their places.
use Rattle.std.proofs.Common.{◌≡◌, ℕ, zero, suc, ◌+◌, ◌≤◌, ◌<◌, Bool, List, [], ◌∷◌, length, get_or, map, refl, sym, ap, ◌∙◌, subst, inl, inr, arith, mul_comm}
use Rattle.std.proofs.lemmas.Bool.{cases_eq, eq-eqb, ne_eqb}
use Rattle.std.proofs.lemmas.List.{get_or-map, length-map}
use Rattle.std.proofs.lemmas.List.Elements.{All-weaker}
use Rattle.std.proofs.lemmas.List.Sorted.{All-permutation, Contains-permutation, IsPermutation-map, length_permutation}
use Rattle.std.proofs.lemmas.Map.Keys.{IsDistinct-IsPermutation, IsStrictlyIncreasing-from_distinct}
use Rattle.std.proofs.lemmas.Option.{get_or_from_slice_get, slice_get_cases, slice_get_read, slice_get_within}
use Rattle.std.specs.List.{IsDistinct}
use Rattle.std.specs.List.Sorted.{IsNonDecreasing, IsNonDecreasingBy, IsPermutation, IsStrictlyIncreasing}
use Rattle.std.specs.Prelude.{◌-◌, ◌==◌, All, Contains, Some, slice_get}
use Rattle.shard_log.specs.View.{Grows}
use Rattle.shard_tables.specs.StoreView.{Store}
use Rattle.tao_keeper.specs.Table.{Tables}
use Rattle.topology.specs.Config.{Settings}
use Rattle.core_model.proofs.FoundStores.{master_found, named_stands}
use Rattle.core_model.proofs.Places.{one_some}
use Rattle.core_model.specs.Pens.{pens_of, view_or_none}
use Rattle.core_model.specs.Stores.{AreStores, FollowMasters, HaveMasterRegions, HaveSeen, master_store, store_count, store_place}
use Rattle.core_nodes.specs.Opening.{AreMade, IsMade}
use Rattle.core_nodes.proofs.FleetBegins.{all_at}
use Rattle.core_nodes.proofs.MadeNames.{made_count, made_distinct}
use Rattle.core_nodes.proofs.OpenLemmas.{place_within}

-- ---- numbers that rise, as many as they are below

-- none is below its place
not_below : (ks : List ℕ) → IsStrictlyIncreasing ks → (i : ℕ) → i < length ks → i ≤ get_or ks i 0
not_below ks rise zero lt = omega arith
not_below ks rise (suc i) lt =
    let before = not_below ks rise i (omega (arith, lt)) in
    let step = rise i (omega (arith, lt)) in
    let here : i + 1 ≡ suc i = omega arith in
    subst (λ n. suc i ≤ get_or ks n 0) here (omega (arith, before, step))

-- nor is one above it
not_above : (ks : List ℕ) (top : ℕ) → IsStrictlyIncreasing ks → length ks ≡ top → ((i : ℕ) → i < length ks → get_or ks i 0 < top)
    → (left i : ℕ) → i + suc left ≡ top → get_or ks i 0 ≤ i
not_above ks top rise long below zero i at = let lt = below i (omega (arith, long, at)) in omega (arith, lt, at)
not_above ks top rise long below (suc left) i at =
    let after = not_above ks top rise long below left (i + 1) (omega (arith, at)) in
    let step = rise i (omega (arith, long, at)) in
    omega (arith, after, step)

pub at_its_place : (ks : List ℕ) (top i : ℕ) → IsStrictlyIncreasing ks → length ks ≡ top → ((i : ℕ) → i < length ks → get_or ks i 0 < top)
    → i < length ks → get_or ks i 0 ≡ i
at_its_place ks top i rise long below lt =
    let low = not_below ks rise i lt in
    let high = not_above ks top rise long below (top - suc i) i (let within : i < top = omega (arith, long, lt) in omega (arith, within)) in
    omega (arith, low, high)

-- ---- the stores

flips : (x y : ℕ) → (x == y) ≡ (y == x)
flips x y = elim (cases_eq x y) [
  | inl same ↦ eq-eqb x y same ∙ sym (eq-eqb y x (sym same))
  | inr differ ↦ ne_eqb x y differ ∙ sym (ne_eqb y x (λ same. differ (sym same)))
]

module _ (tells : Bool) (s : Settings) (tables : Tables) (regions : HaveMasterRegions s) (xs ys : List Store) (made : AreMade tells s tables s.shards xs)
    (moved : IsPermutation xs ys) (sorted : IsNonDecreasingBy (λ store. store_place s store.name) ys) where
  abbrev place_of : Store → ℕ
  place_of store = store_place s store.name

  -- all are made, also in their order
  all_made : All (IsMade tells s tables ys) ys
  all_made = All-weaker (IsMade tells s tables xs) (IsMade tells s tables ys)
      (λ x is. record {
        is = is.is;
        kept = is.kept;
        follows = record {
          master = is.follows.master;
          there = Contains-permutation xs ys is.follows.master moved is.follows.there;
          name_is = is.follows.name_is;
          grows = is.follows.grows;
        };
      }) ys (All-permutation (IsMade tells s tables xs) xs ys moved made.each)

  made_at : (place : ℕ) (store : Store) → slice_get ys place ≡ Some store → IsMade tells s tables ys store
  made_at place store h = all_at (IsMade tells s tables ys) ys place store all_made h

  -- there are as many as places
  long : length ys ≡ store_count s
  long =
      let count = made_count s regions s.shards in
      let names = ap length made.names in
      omega (arith, length_permutation xs ys moved, length-map xs (λ (x : Store). x.name), names, count, mul_comm (length s.regions) s.shards)

  abbrev places : List ℕ
  places = map place_of ys

  of_names : (zs : List Store) → map place_of zs ≡ map (store_place s) (map (λ (x : Store). x.name) zs)
  of_names [] = refl
  of_names (z ∷ zs) = ap (λ l. place_of z ∷ l) (of_names zs)

  apart : IsDistinct (λ x y. x == y) (map place_of xs)
  apart = subst (IsDistinct (λ x y. x == y)) (sym (of_names xs ∙ ap (map (store_place s)) made.names)) (made_distinct s regions s.shards (omega arith))

  rising : IsNonDecreasing places
  rising i j d le lt = elim (slice_get_cases ys j).1 [
    | inl e ↦ (
        let inside : j < length ys = e.1 in
        let low = get_or-map place_of ys i e.0 d (omega (arith, le, inside)) in
        let high = get_or-map place_of ys j e.0 d inside in
        let order = sorted i j e.0 le inside in
        omega (arith, low, high, order))
    | inr e ↦ absurd (let past = e.0 in let same = length-map ys place_of in omega (arith, lt, past, same))
  ]

  rise : IsStrictlyIncreasing places
  rise = IsStrictlyIncreasing-from_distinct places rising
      (IsDistinct-IsPermutation (λ x y. x == y) flips (map place_of xs) places (IsPermutation-map place_of xs ys moved) apart)

  below : (i : ℕ) → i < length places → get_or places i 0 < store_count s
  below i lt = elim (slice_get_cases ys i).1 [
    | inl e ↦ (
        let is = (made_at i e.0 e.2).is in
        let read : get_or places i 0 ≡ place_of e.0 = get_or-map place_of ys i e.0 0 e.1 ∙ ap place_of e.3 in
        let within = place_within s e.0.name is.here in
        omega (arith, read, within))
    | inr e ↦ absurd (let past = e.0 in let same = length-map ys place_of in omega (arith, lt, past, same))
  ]

  -- each is at its place
  stands : (place : ℕ) (store : Store) → slice_get ys place ≡ Some store → place ≡ place_of store
  stands place store h =
      let inside = slice_get_within ys place store h in
      let same = length-map ys place_of in
      let own = at_its_place places (store_count s) place rise (same ∙ long) below (omega (arith, inside, same)) in
      sym own ∙ get_or-map place_of ys place store 0 inside ∙ ap place_of (get_or_from_slice_get ys place store store h)

  pub ordered : AreStores s (store_count s) ys
  ordered = record {
    long = long;
    each = λ place store h. (let is = (made_at place store h).is in
        record { place_is = stands place store h; here = is.here; limit_is = is.limit_is; epoch_is = is.epoch_is; role_is = is.role_is });
  }

  pub ordered_seen : HaveSeen tells tables ys
  ordered_seen place store h = (made_at place store h).kept

  -- a master's store is found by its role
  found_master : (shard : ℕ) (master : Store) → shard < s.shards → Contains ys master → master.name ≡ master_store s shard → pens_of ys shard ≡ master.view
  found_master shard master lt there named =
      let at = slice_get_read ys (length ys) there.0 master refl there.1 (sym there.2) in
      let found = named_stands s ys ordered (master_store s shard) (record { region = regions shard; shard = lt }) in
      let same : there.0 ≡ store_place s (master_store s shard) = stands there.0 master at ∙ ap (store_place s) named in
      let one : found.0 ≡ master = one_some found.0 master (sym found.1.stands ∙ subst (λ k. slice_get ys k ≡ Some master) same at) in
      ap view_or_none (master_found s ys ordered shard found.0 found.1).1 ∙ ap (λ (x : Store). x.view) one

  pub ordered_follow : FollowMasters ys
  ordered_follow place store h =
      let is = made_at place store h in
      let own = is.follows in
      subst (λ v. Grows store.view v) (sym (found_master store.name.shard own.master is.is.here.shard own.there own.name_is)) own.grows
