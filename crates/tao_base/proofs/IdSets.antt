-- Sets of ids: what sorting and leaving out repeated ids makes, and what a search in it finds.
use Rattle.std.proofs.Common.{◌≡◌, ◌==◌, ◌↔◌, ℕ, zero, suc, ◌<◌, ◌≤◌, List, [], ◌∷◌, length, get_or, Contains, Result, Ok, Err, MatchResult, is_ok}
use Rattle.std.proofs.Common.{eqb, sym, inl, inr, arith, add-one}
use Rattle.std.specs.List.{list_any}
use Rattle.std.specs.List.Retain.{IsFiltered, DiffersFromLast}
use Rattle.std.specs.List.Sorted.{IsPermutation, IsSorted, IsStrictlyIncreasing, IsBinarySearchResult}
use Rattle.std.specs.Ordering.{nat_cmp}
use Rattle.std.proofs.lemmas.Bool.{ne_eqb, cases_lt}
use Rattle.std.proofs.lemmas.List.{get_or_default}
use Rattle.std.proofs.lemmas.Bool.Decides.{nat_tests}
use Rattle.std.proofs.lemmas.List.Filters.{dedup_is}
use Rattle.std.proofs.lemmas.List.Folds.{list_any_at, list_any_none}
use Rattle.std.proofs.lemmas.List.Kept.{Contains-dedup_nat, Contains-from_dedup}
use Rattle.std.proofs.lemmas.List.Sorted.{Contains-permutation, IsPermutation-sym, searched}
use Rattle.std.proofs.lemmas.Map.Keys.{IsStrictlyIncreasing-dedup}
use Rattle.tao_base.specs.Ids.{IsRising}

rising_from_increasing : (xs : List ℕ) → IsStrictlyIncreasing xs → IsRising xs
rising_from_increasing [] up = tt
rising_from_increasing (x ∷ []) up = tt
rising_from_increasing (x ∷ y ∷ ys) up = (
  up 0 (omega arith),
  rising_from_increasing (y ∷ ys) (λ k lt. rw add-one (rw add-one at (up (suc k) (rw add-one (omega arith))))),
)

-- each id is at least the first, and so on
above_first : (x : ℕ) (xs : List ℕ) → IsRising (x ∷ xs) → (k : ℕ) → k < length (x ∷ xs) → x ≤ get_or (x ∷ xs) k 0
above_first x xs up zero lt = omega arith
above_first x [] up (suc k) lt = absurd (omega arith)
above_first x (y ∷ ys) up (suc k) lt = let above = above_first y ys up.1 k (omega arith) in omega (arith, up.0)

sorted_from_rising : (xs : List ℕ) → IsRising xs → (i j : ℕ) → i ≤ j → j < length xs → get_or xs i 0 ≤ get_or xs j 0
sorted_from_rising [] up i j le lt = absurd (omega arith)
sorted_from_rising (x ∷ xs) up zero j le lt = above_first x xs up j lt
sorted_from_rising (x ∷ xs) up (suc i) zero le lt = absurd (omega arith)
sorted_from_rising (x ∷ []) up (suc i) (suc j) le lt = absurd (omega arith)
sorted_from_rising (x ∷ y ∷ ys) up (suc i) (suc j) le lt = sorted_from_rising (y ∷ ys) up.1 i j (omega arith) (omega arith)

-- sorted, and each id left out that equals the one before
pub rising_set : (sorted set : List ℕ) → IsSorted nat_cmp sorted → IsFiltered (DiffersFromLast eqb) [] sorted set → IsRising set
rising_set sorted set up kept = rw (dedup_is eqb sorted set kept) (rising_from_increasing _ (IsStrictlyIncreasing-dedup sorted up))

pub same_members : (ids sorted set : List ℕ) → IsPermutation ids sorted → IsFiltered (DiffersFromLast eqb) [] sorted set → (id : ℕ)
    → Contains set id ↔ Contains ids id
same_members ids sorted set moved kept id = rw (dedup_is eqb sorted set kept) (
  λ in_set. Contains-permutation sorted ids id (IsPermutation-sym ids sorted moved) (Contains-from_dedup eqb sorted id in_set),
  λ in_ids. Contains-dedup_nat sorted id (Contains-permutation ids sorted id moved in_ids),
)

found_is : (xs : List ℕ) (id : ℕ) (r : Result ℕ ℕ)
    → MatchResult r (λ i. (i < length xs) × (get_or xs i 0 ≡ id))
    (λ i. (i ≤ length xs) × ((k : ℕ) → k < i → get_or xs k 0 < id) × ((k : ℕ) → i ≤ k → k < length xs → id < get_or xs k 0))
    → is_ok r ≡ list_any (λ member. member == id) xs
found_is xs id (Ok i) at = sym (list_any_at (λ member. member == id) xs i 0 at.0 (grind (arith, nat_tests)))
found_is xs id (Err i) at = sym (list_any_none (λ member. member == id) xs (λ k d lt. rw (get_or_default xs k d 0 lt) (ne_eqb _ _ (misses k lt))))
  where
    misses : (k : ℕ) → k < length xs → get_or xs k 0 ≡ id → ⊥
    misses k lt e = elim (cases_lt k i) [ inl before ↦ absurd (omega (arith, at.1 k before)) | inr behind ↦ absurd (omega (arith, at.2 k behind lt)) ]

pub search_finds : (xs : List ℕ) (id : ℕ) (r : Result ℕ ℕ) → IsRising xs → IsBinarySearchResult (λ y. nat_cmp y id) xs r
    → is_ok r ≡ list_any (λ member. member == id) xs
search_finds xs id r up at = found_is xs id r (searched xs id r at (sorted_from_rising xs up))
