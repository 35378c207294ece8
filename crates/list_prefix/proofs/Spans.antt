-- Where the edges of some times stand.
use Rattle.std.proofs.Common.{◌≡◌, ℕ, zero, suc, ◌+◌, ◌-◌, ◌<◌, ◌≤◌, Bool, true, false, ◌&&◌, List, [], ◌∷◌, length, map, take, drop, get_or, min}
use Rattle.std.proofs.Common.{Some, refl, sym, ◌∙◌, ap, arith, inl, inr, length-take, length-drop}
use Rattle.std.specs.Prelude.{nat_lt, nat_le, filter}
use Rattle.std.specs.List.{AllByRecursion}
use Rattle.std.specs.List.Sorted.{IsPartitionedBy, IsPartitionPoint}
use Rattle.std.proofs.lemmas.Bool.{ltb-true, leb-true, lt-ltb, le-ltb, le-leb, lt-leb, cases_lt}
use Rattle.std.proofs.lemmas.Bool.Decides.{nat_tests}
use Rattle.std.proofs.lemmas.List.Sums.{prefix_len-le-length}
use Rattle.std.specs.List.{prefix_len}
use Rattle.tao_base.specs.declared.edge.Edge.{Edge}
use Rattle.graph_model.specs.Answers.{at_least, at_most, within}
use Rattle.graph_model.specs.Edges.{IsNewestFirst, is_newer}
use Rattle.graph_model.specs.Prefixes.{count_within}
use Rattle.list_prefix.specs.Spans.{from_on, later_than}

one_more : (n : ℕ) → 1 + n ≡ suc n
one_more n = omega arith

-- an edge that stands before has no lesser time
pub time_falls : (x y : Edge) → is_newer x y ≡ true → y.time ≤ x.time
time_falls x y h = grind (arith, nat_tests)

module _ {A : Type 0} (edge : A → Edge) where
  -- a partition point is the number of edges that pass at the front
  pub point_is : (p : Edge → Bool) (xs : List A) (i : ℕ) → IsPartitionPoint (λ y. p (edge y) ≡ true) (λ y. p (edge y) ≡ false) xs i → i ≤ length xs
      → i ≡ prefix_len p (map edge xs)
  point_is p [] i point le = omega arith
  point_is p (x ∷ xs) zero point le = rw (point.1 zero x (omega arith) (omega arith))
  point_is p (x ∷ xs) (suc i) point le =
      rw (point.0 zero x (omega arith) (omega arith), one_more)
      (ap suc (point_is p xs i ((λ k d a b. point.0 (suc k) d (omega arith) (omega arith)), (λ k d a b. point.1 (suc k) d (omega arith) (omega arith)))
      (omega arith)))

  later_falls : (x : Edge) (xs : List A) → AllByRecursion (λ y. is_newer x y ≡ true) (map edge xs) → (k : ℕ) (d : A) → k < length xs
      → (edge (get_or xs k d)).time ≤ x.time
  later_falls x [] before k d h = absurd (omega arith)
  later_falls x (y ∷ ys) before zero d h = time_falls x (edge y) before.0
  later_falls x (y ∷ ys) before (suc k) d h = later_falls x ys before.1 k d (omega arith)

  -- times fall along a list
  times_fall : (xs : List A) → IsNewestFirst (map edge xs) → (i j : ℕ) (d : A) → i ≤ j → j < length xs
      → (edge (get_or xs j d)).time ≤ (edge (get_or xs i d)).time
  times_fall [] sorted i j d l h = absurd (omega arith)
  times_fall (x ∷ xs) sorted zero zero d l h = omega arith
  times_fall (x ∷ xs) sorted zero (suc j) d l h = later_falls (edge x) xs sorted.0 j d (omega arith)
  times_fall (x ∷ xs) sorted (suc i) zero d l h = absurd (omega arith)
  times_fall (x ∷ xs) sorted (suc i) (suc j) d l h = times_fall xs sorted.1 i j d (omega arith) (omega arith)

  pub later_parted : (xs : List A) (high : ℕ) → IsNewestFirst (map edge xs) → IsPartitionedBy (λ x. nat_lt high (edge x).time) xs
  later_parted xs high sorted i j d l h later = let falls = times_fall xs sorted i j d l h in lt-ltb high _ (omega (arith, falls, ltb-true high _ later))

  pub from_parted : (xs : List A) (low : ℕ) → IsNewestFirst (map edge xs) → IsPartitionedBy (λ x. nat_le low (edge x).time) xs
  from_parted xs low sorted i j d l h later = let falls = times_fall xs sorted i j d l h in le-leb low _ (omega (arith, falls, leb-true low _ later))

-- the edges from place i up to place j
abbrev stretch : ℕ → ℕ → List Edge → List Edge
stretch i j l = take (j - i) (drop i l)

stretch_none : (i : ℕ) (l : List Edge) → stretch i 0 l ≡ []
stretch_none i l = let e : 0 - i ≡ 0 = omega arith in rw e

stretch_both : (i j : ℕ) (x : Edge) (l : List Edge) → stretch (1 + i) (1 + j) (x ∷ l) ≡ stretch i j l
stretch_both i j x l = let e : 1 + j - (1 + i) ≡ j - i = omega arith in rw (e, one_more i)

stretch_first : (j : ℕ) (x : Edge) (l : List Edge) → stretch 0 (1 + j) (x ∷ l) ≡ x ∷ stretch 0 j l
stretch_first j x l = let e : 1 + j - 0 ≡ suc j = omega arith in let f : j - 0 ≡ j = omega arith in rw (e, f)

abbrev timely : ℕ → ℕ → Edge → Bool
timely low high e = at_least (Some low) e.time && at_most (Some high) e.time

-- behind an edge below low none is within the times
none_below : (low high : ℕ) (x : Edge) (ys : List Edge) → AllByRecursion (λ y. is_newer x y ≡ true) ys → x.time < low → filter (timely low high) ys ≡ []
none_below low high x [] before below = refl
none_below low high x (y ∷ ys) before below = let falls = time_falls x y before.0 in
    rw (lt-leb low y.time (omega arith)) (none_below low high x ys before.1 below)

-- behind an edge that is not later than high none is
none_later : (high : ℕ) (x : Edge) (xs : List Edge) → AllByRecursion (λ y. is_newer x y ≡ true) xs → x.time ≤ high → later_than high xs ≡ 0
none_later high x [] before h = refl
none_later high x (y ∷ ys) before h = let falls = time_falls x y before.0 in rw (le-ltb high y.time (omega arith))

-- the edges within the times stand together
pub within_is : (low high : ℕ) (xs : List Edge) → IsNewestFirst xs → within (Some low) (Some high) xs ≡ stretch (later_than high xs) (from_on low xs) xs
within_is low high [] sorted = refl
within_is low high (x ∷ xs) sorted = elim (cases_lt high x.time) [
  | inl later ↦ elim (cases_lt x.time low) [
    | inl below ↦ rw (lt-ltb high x.time later, lt-leb low x.time below)
        (none_below low high x xs sorted.0 below ∙ sym (stretch_none (1 + later_than high xs) (x ∷ xs)))
    | inr from ↦ rw (lt-ltb high x.time later, le-leb low x.time from, lt-leb x.time high later)
        (within_is low high xs sorted.1 ∙ sym (stretch_both (later_than high xs) (from_on low xs) x xs))
  ]
  | inr not_later ↦ elim (cases_lt x.time low) [
    | inl below ↦ rw (le-ltb high x.time not_later, lt-leb low x.time below) (none_below low high x xs sorted.0 below ∙ sym (stretch_none 0 (x ∷ xs)))
    | inr from ↦ rw (le-ltb high x.time not_later, le-leb low x.time from, le-leb x.time high not_later)
        (ap (λ l. x ∷ l) (within_is low high xs sorted.1 ∙ ap (λ i. stretch i (from_on low xs) xs) (none_later high x xs sorted.0 not_later))
        ∙ sym (stretch_first (from_on low xs) x xs))
  ]
]

take_both : (m n : ℕ) (l : List Edge) → take m (take n l) ≡ take (min n m) l
take_both zero n l = let e : min n 0 ≡ 0 = omega arith in rw e
take_both (suc m) zero l = let e : min 0 (suc m) ≡ 0 = omega arith in rw e
take_both (suc m) (suc n) [] = let e : min (suc n) (suc m) ≡ suc (min n m) = omega arith in rw e
take_both (suc m) (suc n) (x ∷ l) = let e : min (suc n) (suc m) ≡ suc (min n m) = omega arith in rw e (ap (λ r. x ∷ r) (take_both m n l))

-- the first of them
pub first_within : (low high used start end : ℕ) (xs : List Edge) → IsNewestFirst xs → start ≡ later_than high xs → end ≡ from_on low xs
    → take (min (end - start) used) (drop start xs) ≡ take used (within (Some low) (Some high) xs)
first_within low high used start end xs sorted s e =
    sym (ap (take used) (within_is low high xs sorted) ∙ rw (← s, ← e) (take_both used (end - start) (drop start xs)))

-- how many they are
pub number_within : (low high start end : ℕ) (xs : List Edge) → IsNewestFirst xs → start ≡ later_than high xs → end ≡ from_on low xs
    → end - start ≡ count_within (Some low) (Some high) xs
number_within low high start end xs sorted s e =
    let fits = prefix_len-le-length (λ (e : Edge). nat_le low e.time) xs in
    sym (ap length (within_is low high xs sorted) ∙ rw (← s, ← e) (simp (length-take, length-drop) (omega arith)))
