-- Places of a list of which one changes.
use Rattle.std.proofs.Common.{◌≡◌, ◌≢◌, ◌⊎◌, ℕ, zero, suc, ◌<◌, List, [], ◌∷◌, length, Option, Some, None, refl, ap, sym, subst, ◌∙◌, inl, inr, arith}
use Rattle.std.proofs.lemmas.Option.{slice_get-get_or}
use Rattle.std.specs.Prelude.{IsSomeAnd, slice_get, slice_index_or, slice_set}

pub one_some : {X : Type 0} (x y : X) → Some x ≡ Some y → x ≡ y
one_some x y h = cc

-- an element after one was set was there before, or is the one that was set
pub get_set : {X : Type 0} (xs : List X) (k : ℕ) (x : X) (n : ℕ) (y : X) → slice_get (slice_set xs k x) n ≡ Some y
    → ((n ≢ k) × (slice_get xs n ≡ Some y)) ⊎ ((n ≡ k) × (x ≡ y))
get_set [] k x n y h = absurd (cc)
get_set (z ∷ zs) zero x zero y h = inr (refl, cc)
get_set (z ∷ zs) zero x (suc n) y h = inl ((λ e. omega (arith, e)), h)
get_set (z ∷ zs) (suc k) x zero y h = inl ((λ e. omega (arith, e)), h)
get_set (z ∷ zs) (suc k) x (suc n) y h = elim (get_set zs k x n y h) [
  | inl e ↦ inl ((λ same. e.0 (omega (arith, same))), e.1)
  | inr e ↦ inr (ap suc e.0, e.1)
]

-- the element that was set
pub set_get : {X : Type 0} (xs : List X) (k : ℕ) (x y : X) → slice_get xs k ≡ Some x → slice_get (slice_set xs k y) k ≡ Some y
set_get [] k x y h = absurd (cc)
set_get (z ∷ zs) zero x y h = refl
set_get (z ∷ zs) (suc k) x y h = set_get zs k x y h

-- an element that takes its own place
pub set_same : {X : Type 0} (xs : List X) (k : ℕ) (x : X) → slice_get xs k ≡ Some x → slice_set xs k x ≡ xs
set_same [] k x h = refl
set_same (z ∷ zs) zero x h = (let e : z ≡ x = cc in ap (λ y. y ∷ zs) (sym e))
set_same (z ∷ zs) (suc k) x h = ap (λ l. z ∷ l) (set_same zs k x h)

-- what is so of an element at a place is so of the one that code reads there
pub record IsRead {X : Type 0} (xs : List X) (k : ℕ) (d : X) (P : X → Type 0) : Type 0 where
  pub within : k < length xs
  pub stands : slice_get xs k ≡ Some (slice_index_or xs k d)
  pub is : P (slice_index_or xs k d)

pub read_at : {X : Type 0} (xs : List X) (k : ℕ) (d : X) (P : X → Type 0) → IsSomeAnd (slice_get xs k) P → IsRead xs k d P
read_at [] k d P h = absurd h
read_at (x ∷ xs) zero d P h = record { within = omega arith; stands = refl; is = h }
read_at (x ∷ xs) (suc k) d P h = (let r = read_at xs k d P h in let lt = r.within in record { within = omega arith; stands = r.stands; is = r.is })

pub some_and : {X : Type 0} (o : Option X) (x : X) (P : X → Type 0) → o ≡ Some x → P x → IsSomeAnd o P
some_and None x P h is = absurd (cc)
some_and (Some y) x P h is = (let e : y ≡ x = cc in rw e is)

-- the element that code reads at a place that it computed
pub at_index : {X : Type 0} (xs : List X) (place here : ℕ) (d : X) → here ≡ place → place < length xs → slice_get xs place ≡ Some (slice_index_or xs here d)
at_index xs place here d same lt = subst (λ k. slice_get xs place ≡ Some (slice_index_or xs k d)) (sym same) (slice_get-get_or xs place d lt)

-- it is put back as it was
pub set_back : {X : Type 0} (xs : List X) (place here : ℕ) (d x : X) → here ≡ place → place < length xs → x ≡ slice_index_or xs here d
    → slice_set xs here x ≡ xs
set_back xs place here d x same lt is =
    set_same xs here x (subst (λ k. slice_get xs k ≡ Some x) (sym same) (at_index xs place here d same lt ∙ ap Some (sym is)))
