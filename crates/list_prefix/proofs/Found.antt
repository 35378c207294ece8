-- Each id of a set is found exactly where as many edges go to one of its ids as it has.
use Rattle.std.proofs.Common.{◌≡◌, ◌≢◌, ℕ, suc, ◌+◌, ◌≤◌, Bool, true, false, cond, List, [], ◌∷◌, length, refl, sym, ◌∙◌, ap, arith, inl, inr}
use Rattle.std.specs.Prelude.{◌==◌, count_by, filter}
use Rattle.std.specs.List.{list_any, list_all, AllByRecursion}
use Rattle.std.proofs.lemmas.Bool.{eqb-true, eq-eqb, ne_eqb, cases_Bool}
use Rattle.std.proofs.lemmas.List.Sums.{length-filter}
use Rattle.tao_base.specs.Ids.{IsRising}
use Rattle.tao_base.specs.declared.edge.Edge.{Edge}
use Rattle.graph_model.proofs.Lists.{apart-eqb, eqb-same}
use Rattle.graph_model.specs.Edges.{AreDistinct}
use Rattle.tao_base.proofs.RisingNumbers.{rising_tail}

-- whether the edge goes to one of the ids
abbrev is_asked : List ℕ → Edge → Bool
is_asked ids e = list_any (λ id. id == e.id2) ids

abbrev goes_to : ℕ → Edge → Bool
goes_to id e = id == e.id2

abbrev number : (Edge → Bool) → List Edge → ℕ
number p xs = length (filter p xs)

suc_eq : (a b : ℕ) → (a == b) ≡ (suc a == suc b)
suc_eq a b = elim (cases_Bool (a == b)) [
  | inl t ↦ t ∙ sym (eq-eqb (suc a) (suc b) (ap suc (eqb-true a b t)))
  | inr f ↦ f ∙ sym (ne_eqb (suc a) (suc b) (λ e. (let g = eq-eqb a b (omega arith) in cc)))
]

-- the ids that follow are greater
above : (i : ℕ) (ids : List ℕ) → IsRising (i ∷ ids) → (j : ℕ) → j ≤ i → list_any (λ id. id == j) ids ≡ false
above i [] up j le = refl
above i (k ∷ ids) up j le = let lt = up.0 in rw (apart-eqb k j (λ e. omega arith)) (above k ids up.1 j (omega arith))

-- at most one edge goes to an id
none_again : (i : ℕ) (x : Edge) (xs : List Edge) → AllByRecursion (λ y. y.id2 ≢ x.id2) xs → i ≡ x.id2 → (number (goes_to i) xs ≡ 0)
    × (list_any (goes_to i) xs ≡ false)
none_again i x [] apart is = (refl, refl)
none_again i x (y ∷ ys) apart is =
    let off : goes_to i y ≡ false = apart-eqb i y.id2 (λ e. apart.0 (sym e ∙ is)) in
    let rest = none_again i x ys apart.1 is in
    (rw off rest.0, rw off rest.1)

number_one : (i : ℕ) (xs : List Edge) → AreDistinct xs → number (goes_to i) xs ≡ cond (list_any (goes_to i) xs) 1 0
number_one i [] distinct = refl
number_one i (x ∷ xs) distinct = elim (cases_Bool (goes_to i x)) [
  | inl same ↦ rw same (ap suc (none_again i x xs distinct.0 (eqb-same i x.id2 same)).0)
  | inr other ↦ rw other (number_one i xs distinct.1)
]

number_more : (i : ℕ) (ids : List ℕ) → list_any (λ id. id == i) ids ≡ false → (xs : List Edge) → number (is_asked (i ∷ ids)) xs ≡ number (goes_to i) xs + number
    (is_asked ids) xs
number_more i ids apart [] = refl
number_more i ids apart (x ∷ xs) = let rest = number_more i ids apart xs in elim (cases_Bool (goes_to i x)) [
  | inl same ↦
      let e = eqb-same i x.id2 same in
      let off : is_asked ids x ≡ false = rw e at apart in
      rw (same, off) (omega (arith, rest))
  | inr other ↦ elim (cases_Bool (is_asked ids x)) [
    | inl on ↦ rw (other, on) (omega (arith, rest))
    | inr off ↦ rw (other, off) rest
  ]
]

number_none : (xs : List Edge) → number (is_asked []) xs ≡ 0
number_none [] = refl
number_none (x ∷ xs) = number_none xs

at_most_one : (b : Bool) → cond b 1 0 ≤ 1
at_most_one true = omega arith
at_most_one false = omega arith

number_most : (ids : List ℕ) → IsRising ids → (xs : List Edge) → AreDistinct xs → number (is_asked ids) xs ≤ length ids
number_most [] up xs distinct = omega (arith, number_none xs)
number_most (i ∷ ids) up xs distinct =
    let more = number_more i ids (above i ids up i (omega arith)) xs in
    let one = number_one i xs distinct in
    let rest = number_most ids (rising_tail i ids up) xs distinct in
    omega (arith, more, one, rest, at_most_one (list_any (goes_to i) xs))

each_found : (ids : List ℕ) → IsRising ids → (xs : List Edge) → AreDistinct xs
    → (number (is_asked ids) xs == length ids) ≡ list_all (λ id. list_any (λ e. id == e.id2) xs) ids
each_found [] up xs distinct = rw (number_none xs)
each_found (i ∷ ids) up xs distinct =
    let more = number_more i ids (above i ids up i (omega arith)) xs in
    let one = number_one i xs distinct in
    let most = number_most ids (rising_tail i ids up) xs distinct in
    elim (cases_Bool (list_any (goes_to i) xs)) [
      | inl found ↦
          let n : number (is_asked (i ∷ ids)) xs ≡ suc (number (is_asked ids) xs) = let single : number (goes_to i) xs ≡ 1 = rw found at one in
          omega (arith, more, single) in
          rw (found, n) (sym (suc_eq (number (is_asked ids) xs) (length ids)) ∙ each_found ids (rising_tail i ids up) xs distinct)
      | inr lost ↦
          let n : number (is_asked (i ∷ ids)) xs ≡ number (is_asked ids) xs = let none : number (goes_to i) xs ≡ 0 = rw lost at one in
          omega (arith, more, none) in
          rw (lost, n) (ne_eqb _ _ (λ e. omega (arith, most, e)))
    ]

pub all_found : (ids : List ℕ) (xs : List Edge) → IsRising ids → AreDistinct xs
    → (count_by (λ (e : Edge). list_any (λ id. id == e.id2) ids) xs == length ids) ≡ list_all (λ id. list_any (λ e. id == e.id2) xs) ids
all_found ids xs up distinct = ap (λ n. n == length ids) (sym (length-filter (is_asked ids) xs)) ∙ each_found ids up xs distinct
