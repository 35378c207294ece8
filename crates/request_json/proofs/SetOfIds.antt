-- There is one rising list of the same ids, and putting each at its place makes it.
use Rattle.std.proofs.Common.{◌≡◌, ◌↔◌, ◌∙◌, ◌⊎◌, ◌==◌, ℕ, zero, suc, ◌<◌, ◌≤◌, nat_lt, List, [], ◌∷◌, Contains, refl, sym, ap, inl, inr, arith}
use Rattle.std.proofs.lemmas.Bool.{cases_Bool}
use Rattle.std.proofs.lemmas.Bool.Decides.{nat_tests}
use Rattle.tao_base.specs.Ids.{IsRising}
use Rattle.request_json.specs.IdSets.{put_id, id_set}
use Rattle.tao_base.proofs.RisingNumbers.{rising_tail}

-- the id is one of these
abbrev IsIn : ℕ → List ℕ → Type 0
IsIn id [] = ⊥
IsIn id (next ∷ ids) = (next ≡ id) ⊎ IsIn id ids

in_from_contains : (ids : List ℕ) (id : ℕ) → Contains ids id → IsIn id ids
in_from_contains [] id c = absurd (omega (arith, c.1))
in_from_contains (next ∷ ids) id (zero, lt, e) = inl e
in_from_contains (next ∷ ids) id (suc k, lt, e) = inr (in_from_contains ids id (k, omega arith, e))

contains_from_in : (ids : List ℕ) (id : ℕ) → IsIn id ids → Contains ids id
contains_from_in [] id h = absurd h
contains_from_in (next ∷ ids) id (inl e) = (0, omega arith, e)
contains_from_in (next ∷ ids) id (inr h) = let c = contains_from_in ids id h in (suc c.0, omega (arith, c.1), c.2)

-- ---- one rising list

first_is_below : (first : ℕ) (ids : List ℕ) (id : ℕ) → IsRising (first ∷ ids) → IsIn id ids → first < id
first_is_below first [] id up h = absurd h
first_is_below first (next ∷ ids) id up (inl e) = omega (arith, up.0)
first_is_below first (next ∷ ids) id up (inr h) = let lt : next < id = first_is_below next ids id up.1 h in omega (arith, up.0)

first_is_least : (first : ℕ) (ids : List ℕ) (id : ℕ) → IsRising (first ∷ ids) → IsIn id (first ∷ ids) → first ≤ id
first_is_least first ids id up (inl e) = omega arith
first_is_least first ids id up (inr h) = let lt : first < id = first_is_below first ids id up h in omega arith

in_rest : (x y : ℕ) (xs ys : List ℕ) (id : ℕ) → x ≡ y → IsRising (x ∷ xs) → IsIn id xs → IsIn id (y ∷ ys) → IsIn id ys
in_rest x y xs ys id same up h (inl e) = let lt : x < id = first_is_below x xs id up h in absurd (omega arith)
in_rest x y xs ys id same up h (inr k) = k

rising_only : (xs ys : List ℕ) → IsRising xs → IsRising ys → ((id : ℕ) → IsIn id xs → IsIn id ys) → ((id : ℕ) → IsIn id ys → IsIn id xs) → xs ≡ ys
rising_only [] [] up vp to from = refl
rising_only [] (y ∷ ys) up vp to from = absurd (from y (inl refl))
rising_only (x ∷ xs) [] up vp to from = absurd (to x (inl refl))
rising_only (x ∷ xs) (y ∷ ys) up vp to from =
    let below : y ≤ x = first_is_least y ys x vp (to x (inl refl)) in
    let above : x ≤ y = first_is_least x xs y up (from y (inl refl)) in
    let same : x ≡ y = omega arith in
    let rest : xs ≡ ys = rising_only xs ys (rising_tail x xs up) (rising_tail y ys vp)
    (λ id h. in_rest x y xs ys id same up h (to id (inr h)))
    (λ id h. in_rest y x ys xs id (sym same) vp h (from id (inr h))) in
    ap (λ z. z ∷ xs) same ∙ ap (λ zs. y ∷ zs) rest

-- ---- putting an id at its place

put_above : (low id : ℕ) (ids : List ℕ) → low < id → IsRising (low ∷ ids) → IsRising (low ∷ put_id id ids)
put_above low id [] lt up = (lt, tt)
put_above low id (next ∷ ids) lt up = elim (cases_Bool (nat_lt id next)) [
  | inl e ↦ let less : id < next = grind (arith, nat_tests) in rw e (lt, (less, up.1))
  | inr e ↦ elim (cases_Bool (id == next)) [
    | inl s ↦ rw (e, s) up
    | inr s ↦ let more : next < id = grind (arith, nat_tests) in rw (e, s) (up.0, put_above next id ids more up.1)
  ]
]

put_rises : (id : ℕ) (ids : List ℕ) → IsRising ids → IsRising (put_id id ids)
put_rises id [] up = tt
put_rises id (next ∷ ids) up = elim (cases_Bool (nat_lt id next)) [
  | inl e ↦ let less : id < next = grind (arith, nat_tests) in rw e (less, up)
  | inr e ↦ elim (cases_Bool (id == next)) [
    | inl s ↦ rw (e, s) up
    | inr s ↦ let more : next < id = grind (arith, nat_tests) in rw (e, s) (put_above next id ids more up)
  ]
]

in_put : (x id : ℕ) (ids : List ℕ) → IsIn x (put_id id ids) → (id ≡ x) ⊎ IsIn x ids
in_put x id [] h = h
in_put x id (next ∷ ids) h = elim (cases_Bool (nat_lt id next)) [
  | inl e ↦ rw e at h
  | inr e ↦ elim (cases_Bool (id == next)) [
    | inl s ↦ inr (rw (e, s) at h)
    | inr s ↦ elim (rw (e, s) at h) [ inl first ↦ inr (inl first) | inr later ↦ elim (in_put x id ids later) [ inl it ↦ inl it | inr k ↦ inr (inr k) ] ]
  ]
]

put_in : (x id : ℕ) (ids : List ℕ) → (id ≡ x) ⊎ IsIn x ids → IsIn x (put_id id ids)
put_in x id [] h = h
put_in x id (next ∷ ids) h = elim (cases_Bool (nat_lt id next)) [
  | inl e ↦ rw e h
  | inr e ↦ elim (cases_Bool (id == next)) [
    | inl s ↦ rw (e, s) (elim h [ inl it ↦ inl (let same : id ≡ next = grind (arith, nat_tests) in sym same ∙ it) | inr k ↦ k ])
    | inr s ↦ rw (e, s) (elim h [ inl it ↦ inr (put_in x id ids (inl it)) | inr (inl first) ↦ inl first | inr (inr k) ↦ inr (put_in x id ids (inr k)) ])
  ]
]

set_rises : (ids : List ℕ) → IsRising (id_set ids)
set_rises [] = tt
set_rises (id ∷ ids) = put_rises id (id_set ids) (set_rises ids)

in_set : (ids : List ℕ) (x : ℕ) → IsIn x ids → IsIn x (id_set ids)
in_set [] x h = h
in_set (id ∷ ids) x (inl e) = put_in x id (id_set ids) (inl e)
in_set (id ∷ ids) x (inr h) = put_in x id (id_set ids) (inr (in_set ids x h))

from_set : (ids : List ℕ) (x : ℕ) → IsIn x (id_set ids) → IsIn x ids
from_set [] x h = h
from_set (id ∷ ids) x h = elim (in_put x id (id_set ids) h) [ inl e ↦ inl e | inr k ↦ inr (from_set ids x k) ]

-- the set of some ids is the only rising list of them
pub set_is : (ids set : List ℕ) → IsRising set → ((id : ℕ) → Contains set id ↔ Contains ids id) → set ≡ id_set ids
set_is ids set up same = rising_only set (id_set ids) up (set_rises ids)
    (λ id h. in_set ids id (in_from_contains ids id ((same id).0 (contains_from_in set id h))))
    (λ id h. in_from_contains set id ((same id).1 (contains_from_in ids id (from_set ids id h))))
