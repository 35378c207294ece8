-- Facts of each element of a list, and of each with each later one, over the parts of lists.
use Rattle.std.proofs.Common.{ℕ, zero, suc, Bool, true, false, cond, List, [], ◌∷◌, ◌++◌, take, drop}
use Rattle.std.specs.Prelude.{filter}
use Rattle.std.specs.List.{AllByRecursion}
use Rattle.graph_model.specs.Edges.{EachWithLater}

module _ {X : Type 0} where
  pub all_map : (P Q : X → Type 0) → ((x : X) → P x → Q x) → (xs : List X) → AllByRecursion P xs → AllByRecursion Q xs
  all_map P Q f [] h = tt
  all_map P Q f (x ∷ xs) h = (f x h.0, all_map P Q f xs h.1)

  pub all_both : (P Q R : X → Type 0) → ((x : X) → P x → Q x → R x) → (xs : List X) → AllByRecursion P xs → AllByRecursion Q xs → AllByRecursion R xs
  all_both P Q R f [] p q = tt
  all_both P Q R f (x ∷ xs) p q = (f x p.0 q.0, all_both P Q R f xs p.1 q.1)

  pub all_of : (P : X → Type 0) → ((x : X) → P x) → (xs : List X) → AllByRecursion P xs
  all_of P f [] = tt
  all_of P f (x ∷ xs) = (f x, all_of P f xs)

  pub all_left : (P : X → Type 0) (xs ys : List X) → AllByRecursion P (xs ++ ys) → AllByRecursion P xs
  all_left P [] ys h = tt
  all_left P (x ∷ xs) ys h = (h.0, all_left P xs ys h.1)

  pub all_right : (P : X → Type 0) (xs ys : List X) → AllByRecursion P (xs ++ ys) → AllByRecursion P ys
  all_right P [] ys h = h
  all_right P (x ∷ xs) ys h = all_right P xs ys h.1

  pub all_append : (P : X → Type 0) (xs ys : List X) → AllByRecursion P xs → AllByRecursion P ys → AllByRecursion P (xs ++ ys)
  all_append P [] ys p q = q
  all_append P (x ∷ xs) ys p q = (p.0, all_append P xs ys p.1 q)

  pub all_take : (P : X → Type 0) (n : ℕ) (xs : List X) → AllByRecursion P xs → AllByRecursion P (take n xs)
  all_take P zero xs h = tt
  all_take P (suc n) [] h = tt
  all_take P (suc n) (x ∷ xs) h = (h.0, all_take P n xs h.1)

  pub all_filter : (P : X → Type 0) (p : X → Bool) (xs : List X) → AllByRecursion P xs → AllByRecursion P (filter p xs)
  all_filter P p [] h = tt
  all_filter P p (x ∷ xs) h =
      elim (p x) as (λ b. AllByRecursion P (cond b (x ∷ filter p xs) (filter p xs))) [ true ↦ (h.0, all_filter P p xs h.1) | false ↦ all_filter P p xs h.1 ]

module _ {X : Type 0} (R : X → X → Type 0) where
  pub EachWithLater-take : (n : ℕ) (xs : List X) → EachWithLater R xs → EachWithLater R (take n xs)
  EachWithLater-take zero xs h = tt
  EachWithLater-take (suc n) [] h = tt
  EachWithLater-take (suc n) (x ∷ xs) h = (all_take (R x) n xs h.0, EachWithLater-take n xs h.1)

  pub EachWithLater-drop : (n : ℕ) (xs : List X) → EachWithLater R xs → EachWithLater R (drop n xs)
  EachWithLater-drop zero xs h = h
  EachWithLater-drop (suc n) [] h = tt
  EachWithLater-drop (suc n) (x ∷ xs) h = EachWithLater-drop n xs h.1

  pub EachWithLater-filter : (p : X → Bool) (xs : List X) → EachWithLater R xs → EachWithLater R (filter p xs)
  EachWithLater-filter p [] h = tt
  EachWithLater-filter p (x ∷ xs) h =
      elim (p x) as (λ b. EachWithLater R (cond b (x ∷ filter p xs) (filter p xs)))
      [ true ↦ (all_filter (R x) p xs h.0, EachWithLater-filter p xs h.1) | false ↦ EachWithLater-filter p xs h.1 ]

  -- two lists joined: each part, and each of the first with each of the second
  pub EachWithLater-left : (xs ys : List X) → EachWithLater R (xs ++ ys) → EachWithLater R xs
  EachWithLater-left [] ys h = tt
  EachWithLater-left (x ∷ xs) ys h = (all_left (R x) xs ys h.0, EachWithLater-left xs ys h.1)

  pub EachWithLater-right : (xs ys : List X) → EachWithLater R (xs ++ ys) → EachWithLater R ys
  EachWithLater-right [] ys h = h
  EachWithLater-right (x ∷ xs) ys h = EachWithLater-right xs ys h.1

  pub EachWithLater-across : (xs ys : List X) → EachWithLater R (xs ++ ys) → AllByRecursion (λ x. AllByRecursion (R x) ys) xs
  EachWithLater-across [] ys h = tt
  EachWithLater-across (x ∷ xs) ys h = (all_right (R x) xs ys h.0, EachWithLater-across xs ys h.1)

  pub EachWithLater-append : (xs ys : List X) → EachWithLater R xs → EachWithLater R ys → AllByRecursion (λ x. AllByRecursion (R x) ys) xs
      → EachWithLater R (xs ++ ys)
  EachWithLater-append [] ys p q r = q
  EachWithLater-append (x ∷ xs) ys p q r = (all_append (R x) xs ys p.0 r.0, EachWithLater-append xs ys p.1 q r.1)
