-- What is left of a list where all but one value is kept.
use Rattle.std.proofs.Common.{◌≡◌, ◌≢◌, ◌↔◌, zero, suc, Bool, true, false, List, [], ◌∷◌, Contains, IsTrue, length, refl, ◌∙◌, sym, subst, arith}
use Rattle.std.specs.List.{items_where_true}
use Rattle.std.specs.List.Retain.{IsFiltered, ReturnsInTurn}

module _ {X P : Type 0} (R : P → X → Bool → P → Type 0) (at : X) (p : P)
    (says : (x : X) (b : Bool) (q : P) → R p x b q → (IsTrue b ↔ (x ≢ at)) × (q ≡ p)) where
  in_rest : (x y : X) (xs : List X) → Contains xs y → Contains (x ∷ xs) y
  in_rest x y xs (k, lt, e) = (suc k, omega (arith, lt), e)

  -- the test goes on as it began
  goes_on : (q : P) (x : X) (b : Bool) (j : P) (bs : List Bool) (xs : List X) → R p x b j → ReturnsInTurn R j bs xs q → ReturnsInTurn R p bs xs q
  goes_on q x b j bs xs one rest = subst (λ i. ReturnsInTurn R i bs xs q) (says x b j one).1 rest

  -- no kept element is the one that goes
  none_kept : (q : P) (bs : List Bool) (xs : List X) → ReturnsInTurn R p bs xs q → ¬ Contains (items_where_true bs xs) at
  none_kept q [] xs told (k, lt, e) = absurd (omega (arith, lt))
  none_kept q (b ∷ bs) [] told here = absurd told
  none_kept q (true ∷ bs) (x ∷ xs) (j, one, rest) (zero, lt, e) = (says x true j one).0.0 refl e
  none_kept q (true ∷ bs) (x ∷ xs) (j, one, rest) (suc k, lt, e) = none_kept q bs xs (goes_on q x true j bs xs one rest) (k, omega (arith, lt), e)
  none_kept q (false ∷ bs) (x ∷ xs) (j, one, rest) here = none_kept q bs xs (goes_on q x false j bs xs one rest) here

  -- each kept element was there
  was_there : (q : P) (bs : List Bool) (xs : List X) (y : X) → ReturnsInTurn R p bs xs q → Contains (items_where_true bs xs) y → Contains xs y
  was_there q [] xs y told (k, lt, e) = absurd (omega (arith, lt))
  was_there q (b ∷ bs) [] y told here = absurd told
  was_there q (true ∷ bs) (x ∷ xs) y (j, one, rest) (zero, lt, e) = (0, omega arith, e)
  was_there q (true ∷ bs) (x ∷ xs) y (j, one, rest) (suc k, lt, e) =
      in_rest x y xs (was_there q bs xs y (goes_on q x true j bs xs one rest) (k, omega (arith, lt), e))
  was_there q (false ∷ bs) (x ∷ xs) y (j, one, rest) here = in_rest x y xs (was_there q bs xs y (goes_on q x false j bs xs one rest) here)

  -- each other element is kept
  others_stay : (q : P) (bs : List Bool) (xs : List X) (y : X) → y ≢ at → length bs ≡ length xs → ReturnsInTurn R p bs xs q → Contains xs y
      → Contains (items_where_true bs xs) y
  others_stay q bs [] y other long told (k, lt, e) = absurd (omega (arith, lt))
  others_stay q [] (x ∷ xs) y other long told here = absurd (omega (arith, long))
  others_stay q (true ∷ bs) (x ∷ xs) y other long (j, one, rest) (zero, lt, e) = (0, omega arith, e)
  others_stay q (true ∷ bs) (x ∷ xs) y other long (j, one, rest) (suc k, lt, e) =
      in_rest x y (items_where_true bs xs) (others_stay q bs xs y other (omega (arith, long)) (goes_on q x true j bs xs one rest) (k, omega (arith, lt), e))
  others_stay q (false ∷ bs) (x ∷ xs) y other long (j, one, rest) (zero, lt, e) =
      let kept : false ≡ true = (says x false j one).0.1 (λ same. other (sym e ∙ same)) in cc
  others_stay q (false ∷ bs) (x ∷ xs) y other long (j, one, rest) (suc k, lt, e) =
      others_stay q bs xs y other (omega (arith, long)) (goes_on q x false j bs xs one rest) (k, omega (arith, lt), e)

  pub all_but_one : (xs ys : List X) → IsFiltered R p xs ys → ¬ Contains ys at × ((y : X) → y ≢ at → Contains ys y ↔ Contains xs y)
  all_but_one xs ys (bs, q, long, told, e) = rw e (none_kept q bs xs told, λ y other. (was_there q bs xs y told, others_stay q bs xs y other long told))
