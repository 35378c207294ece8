-- The names of the stores, shard by shard: each stands once, and there are as many as stores.
use Rattle.std.proofs.Common.{◌≡◌, ◌≢◌, ℕ, zero, suc, ◌+◌, ◌*◌, ◌≤◌, ◌<◌, Bool, true, false, List, [], ◌∷◌, length, map, refl, ap, sym, ◌∙◌, subst}
use Rattle.std.proofs.Common.{inl, inr, arith, length-append}
use Rattle.std.specs.List.{IsDistinct, range_with_len}
use Rattle.std.specs.Prelude.{◌==◌, ◌/◌, filter, not}
use Rattle.std.proofs.Math.Nat.{suc-mul}
use Rattle.std.proofs.lemmas.Bool.{cases_eq, eq-eqb, eqb-false, ne_eqb}
use Rattle.std.proofs.lemmas.Bool.Decides.{Decides-eqb}
use Rattle.std.proofs.lemmas.List.{length-map}
use Rattle.std.proofs.lemmas.Map.Made.{IsDistinct-from_AllPairs}
use Rattle.std.proofs.lemmas.Nat.{div-mul-add}
use Rattle.graph_model.proofs.Members.{AllPairs-from_recursion, IsIn, PairsByRecursion, all_from_in, all_in, in_append_cases, in_filter, in_filter_parts}
use Rattle.graph_model.proofs.Members.{pairs_append, pairs_filter}
use Rattle.tao_base.specs.declared.id.StoreName.{StoreName}
use Rattle.topology.specs.Config.{Settings}
use Rattle.core_model.specs.Stores.{HaveMasterRegions, IsConfiguredStore, master_of, master_store, region_store, store_place}
use Rattle.core_nodes.specs.Opening.{made_names, slave_names}
use Rattle.core_nodes.proofs.OpenLemmas.{one_place}
use Rattle.core_model.proofs.Turns.{in_numbers}

-- ---- lists

pub in_image : {X Y : Type 0} (f : X → Y) (xs : List X) (x : X) → IsIn x xs → IsIn (f x) (map f xs)
in_image f [] x h = absurd h
in_image f (z ∷ zs) x (inl e) = inl (ap f e)
in_image f (z ∷ zs) x (inr h) = inr (in_image f zs x h)

pub image_in : {X Y : Type 0} (f : X → Y) (xs : List X) (y : Y) → IsIn y (map f xs) → (x : X) × IsIn x xs × (f x ≡ y)
image_in f [] y h = absurd h
image_in f (z ∷ zs) y (inl e) = (z, inl refl, e)
image_in f (z ∷ zs) y (inr h) = let rest = image_in f zs y h in (rest.0, inr rest.1, rest.2)

pairs_map : {X Y : Type 0} (R : X → X → Type 0) (S : Y → Y → Type 0) (f : X → Y) → ((a b : X) → R a b → S (f a) (f b)) → (xs : List X)
    → PairsByRecursion R xs → PairsByRecursion S (map f xs)
pairs_map R S f so [] p = tt
pairs_map R S f so (x ∷ xs) p = (
  all_from_in (S (f x)) (map f xs) (λ y h.
      let from = image_in f xs y h in
      subst (S (f x)) from.2 (so x from.0 (all_in (R x) xs from.0 p.0 from.1))),
  pairs_map R S f so xs p.1,
)

pub numbers_in : (first count n : ℕ) → IsIn n (range_with_len first count) → (first ≤ n) × (n < first + count)
numbers_in first zero n h = absurd h
numbers_in first (suc count) n (inl e) = (omega (arith, e), omega (arith, e))
numbers_in first (suc count) n (inr h) = let rest = numbers_in (first + 1) count n h in (omega (arith, rest.0), omega (arith, rest.1))

range_apart : (first count : ℕ) → PairsByRecursion (λ a b. a ≢ b) (range_with_len first count)
range_apart first zero = tt
range_apart first (suc count) = (
  all_from_in (λ n. first ≢ n) (range_with_len (first + 1) count) (λ n h same. let low = (numbers_in (first + 1) count n h).0 in omega (arith, low, same)),
  range_apart (first + 1) count,
)

-- all but one that isn't among them
all_others : (one first count : ℕ) → one < first → length (filter (λ n. not (n == one)) (range_with_len first count)) ≡ count
all_others one first zero lt = refl
all_others one first (suc count) lt =
    let differ : (first == one) ≡ false = ne_eqb first one (λ e. omega (arith, lt, e)) in
    rw differ (ap suc (all_others one (first + 1) count (omega (arith, lt))))

-- all but one of them
other_count : (one first count : ℕ) → first ≤ one → one < first + count
    → suc (length (filter (λ n. not (n == one)) (range_with_len first count))) ≡ count
other_count one first zero low high = absurd (omega (arith, low, high))
other_count one first (suc count) low high = elim (cases_eq first one) [
  | inl same ↦ (
      let is : (first == one) ≡ true = eq-eqb first one same in
      rw is (ap suc (all_others one (first + 1) count (omega (arith, same)))))
  | inr differ ↦ (
      let isnt : (first == one) ≡ false = ne_eqb first one differ in
      rw isnt (ap suc (other_count one (first + 1) count (omega (arith, low, differ)) (omega (arith, high)))))
]

-- ---- names

module _ (s : Settings) where
  -- a shard's slave
  pub record IsSlaveOf (shard : ℕ) (at : StoreName) : Type 0 where
    pub shard_is : at.shard ≡ shard
    pub region : at.region < length s.regions
    pub apart : (at.region == master_of s shard) ≡ false

  pub slave_in : (shard : ℕ) (at : StoreName) → IsIn at (slave_names s shard) → IsSlaveOf shard at
  slave_in shard at h =
      let from = image_in (λ region. region_store region shard) (filter (λ region. not (region == master_of s shard)) (range_with_len 0 (length s.regions)))
      at h in
      let parts = in_filter_parts (λ region. not (region == master_of s shard)) (range_with_len 0 (length s.regions)) from.0 from.1 in
      let within = numbers_in 0 (length s.regions) from.0 parts.0 in
      let made : IsSlaveOf shard (region_store from.0 shard) = record {
        shard_is = refl;
        region = omega (arith, within.1);
        apart = isnt (from.0 == master_of s shard) parts.1;
      } in
      subst (IsSlaveOf shard) from.2 made
    where
      isnt : (b : Bool) → not b ≡ true → b ≡ false
      isnt true h = absurd (cc)
      isnt false h = refl

  pub in_slaves : (at : StoreName) → IsConfiguredStore s at → at.region ≢ master_of s at.shard → IsIn at (slave_names s at.shard)
  in_slaves at here apart =
      let isnt : (at.region == master_of s at.shard) ≡ false = ne_eqb at.region (master_of s at.shard) apart in
      let regions = filter (λ region. not (region == master_of s at.shard)) (range_with_len 0 (length s.regions)) in
      in_image (λ region. region_store region at.shard) regions at.region
      (in_filter (λ region. not (region == master_of s at.shard)) (range_with_len 0 (length s.regions)) at.region
      (in_numbers 0 (length s.regions) at.region (omega arith) (let lt = here.region in omega (arith, lt))) (ap not isnt))

  same_region : (shard a b : ℕ) → shard < s.shards → a * s.shards + shard ≡ b * s.shards + shard → a ≡ b
  same_region shard a b lt same = sym (div-mul-add a s.shards shard lt) ∙ ap (λ n. n / s.shards) same ∙ div-mul-add b s.shards shard lt

  slaves_apart : (shard : ℕ) → shard < s.shards → PairsByRecursion (λ a b. store_place s a ≢ store_place s b) (slave_names s shard)
  slaves_apart shard lt =
      let regions = filter (λ region. not (region == master_of s shard)) (range_with_len 0 (length s.regions)) in
      pairs_map (λ a b. a ≢ b) (λ a b. store_place s a ≢ store_place s b) (λ region. region_store region shard)
      (λ a b differ same. differ (same_region shard a b lt same)) regions
      (pairs_filter (λ a b. a ≢ b) (λ region. not (region == master_of s shard)) (range_with_len 0 (length s.regions)) (range_apart 0 (length s.regions)))

  -- each of the first shards' stores is configured, and of one of these shards
  pub record IsBelow (count : ℕ) (at : StoreName) : Type 0 where
    pub here : IsConfiguredStore s at
    pub below : at.shard < count

  module _ (regions : HaveMasterRegions s) where
    pub shard_in : (shard : ℕ) (at : StoreName) → shard < s.shards → IsIn at (master_store s shard ∷ slave_names s shard)
        → IsConfiguredStore s at × (at.shard ≡ shard)
    shard_in shard at lt (inl e) =
        subst (λ a. IsConfiguredStore s a × (a.shard ≡ shard)) e (record { region = regions shard; shard = lt }, refl)
    shard_in shard at lt (inr h) = let is = slave_in shard at h in (record { region = is.region; shard = omega (arith, lt, is.shard_is) }, is.shard_is)

    pub made_in : (count : ℕ) (at : StoreName) → count ≤ s.shards → IsIn at (made_names s count) → IsBelow count at
    made_in zero at le h = absurd h
    made_in (suc shard) at le h = elim (in_append_cases (made_names s shard) (master_store s shard ∷ slave_names s shard) at h) [
      | inl k ↦ (let was = made_in shard at (omega (arith, le)) k in record { here = was.here; below = (let lt = was.below in omega (arith, lt)) })
      | inr k ↦ (let is = shard_in shard at (omega (arith, le)) k in record { here = is.0; below = omega (arith, is.1) })
    ]

    -- as many as stores
    pub made_count : (count : ℕ) → length (made_names s count) ≡ count * length s.regions
    made_count zero = omega arith
    made_count (suc shard) =
        let own : suc (length (slave_names s shard)) ≡ length s.regions =
        ap suc (length-map (filter (λ region. not (region == master_of s shard)) (range_with_len 0 (length s.regions))) (λ region. region_store region shard))
        ∙ other_count (master_of s shard) 0 (length s.regions) (omega arith) (let lt = regions shard in omega (arith, lt)) in
        omega (
          arith,
          length-append (made_names s shard) (master_store s shard ∷ slave_names s shard),
          made_count shard,
          own,
          suc-mul shard (length s.regions),
        )

    -- each at a place of its own
    pub made_apart : (count : ℕ) → count ≤ s.shards → PairsByRecursion (λ a b. store_place s a ≢ store_place s b) (made_names s count)
    made_apart zero le = tt
    made_apart (suc shard) le =
        let lt : shard < s.shards = omega (arith, le) in
        let own = slave_names s shard in
        pairs_append (λ a b. store_place s a ≢ store_place s b) (made_names s shard) (master_store s shard ∷ own)
        (made_apart shard (omega (arith, le))) (
          all_from_in (λ b. store_place s (master_store s shard) ≢ store_place s b) own (λ b h same.
              let is = slave_in shard b h in
              let equal = one_place s (master_store s shard) b (record { region = regions shard; shard = lt })
              (record { region = is.region; shard = omega (arith, lt, is.shard_is) }) same in
              eqb-false b.region (master_of s shard) is.apart (sym (ap (λ a. a.region) equal))),
          slaves_apart shard lt,
        )
        (λ a b h k same.
        let was = made_in shard a (omega (arith, le)) h in
        let is = shard_in shard b lt k in
        let equal = one_place s a b was.here is.0 same in
        let below = was.below in
        omega (arith, below, is.1, ap (λ (x : StoreName). x.shard) equal))

    pub made_distinct : (count : ℕ) → count ≤ s.shards → IsDistinct (λ x y. x == y) (map (store_place s) (made_names s count))
    made_distinct count le =
        IsDistinct-from_AllPairs Decides-eqb (map (store_place s) (made_names s count))
        (AllPairs-from_recursion (λ a b. a ≢ b) (map (store_place s) (made_names s count))
        (pairs_map (λ a b. store_place s a ≢ store_place s b) (λ a b. a ≢ b) (store_place s) (λ a b apart. apart) (made_names s count)
        (made_apart count le)))
