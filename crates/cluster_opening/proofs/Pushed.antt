-- The elements of a list with one more at its end.
use Rattle.std.proofs.Common.{◌≡◌, ℕ, zero, suc, ◌<◌, List, [], ◌∷◌, ◌++◌, length, Some, refl, arith}
use Rattle.std.specs.Prelude.{slice_get}

-- what stands at a place of it
pub record GetsPushed {X : Type 0} (xs : List X) (x : X) : Type 0 where
  pub last : (place : ℕ) → place ≡ length xs → slice_get (xs ++ x ∷ []) place ≡ Some x
  pub front : (place : ℕ) → place < length xs → slice_get (xs ++ x ∷ []) place ≡ slice_get xs place

get_last : {X : Type 0} (xs : List X) (x : X) (place : ℕ) → place ≡ length xs → slice_get (xs ++ x ∷ []) place ≡ Some x
get_last [] x zero is = refl
get_last [] x (suc place) is = absurd (omega (arith, is))
get_last (y ∷ ys) x zero is = absurd (omega (arith, is))
get_last (y ∷ ys) x (suc place) is = get_last ys x place (omega (arith, is))

get_front : {X : Type 0} (xs : List X) (x : X) (place : ℕ) → place < length xs → slice_get (xs ++ x ∷ []) place ≡ slice_get xs place
get_front [] x place lt = absurd (omega (arith, lt))
get_front (y ∷ ys) x zero lt = refl
get_front (y ∷ ys) x (suc place) lt = get_front ys x place (omega (arith, lt))

pub get_pushed : {X : Type 0} (xs : List X) (x : X) → GetsPushed xs x
get_pushed xs x = record { last = get_last xs x; front = get_front xs x }
