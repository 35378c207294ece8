-- Members of a list, and facts of its pairs, by recursion on the list.
use Rattle.std.proofs.Common.{◌≡◌, zero, suc, Bool, true, false, List, [], ◌∷◌, ◌++◌, ◌⊎◌, inl, inr, map, refl, sym, subst, arith}
use Rattle.std.proofs.lemmas.Bool.{cases_Bool, or_parts, or_cases}
use Rattle.std.proofs.lemmas.List.Elements.{All-from_recursion, recursion_from_All}
use Rattle.std.specs.List.{AllByRecursion, AllByRecursion-prop, cons_option, list_any}
use Rattle.std.specs.Prelude.{All, AllPairs, Contains, Option, Some, None, IfSome, filter, filter_map, flat_map, ⊤}

-- x is one of the elements
abbrev pub IsIn : {X : Type 0} → X → List X → Type 0
IsIn x [] = ⊥
IsIn x (y ∷ ys) = (y ≡ x) ⊎ IsIn x ys

-- a fact of each two elements, of which the first stands before the second
abbrev pub PairsByRecursion : {X : Type 0} → (X → X → Type 0) → List X → Type 0
PairsByRecursion R [] = ⊤
PairsByRecursion R (x ∷ xs) = AllByRecursion (R x) xs × PairsByRecursion R xs

pub if_some : {X : Type 0} (P : X → Type 0) (o : Option X) → ((x : X) → o ≡ Some x → P x) → IfSome o P
if_some P None h = tt
if_some P (Some x) h = h x refl

pub if_some_at : {X : Type 0} (P : X → Type 0) (o : Option X) (x : X) → IfSome o P → o ≡ Some x → P x
if_some_at P o x h e = rw e at h

module _ {X : Type 0} where
  pub in_from_contains : (xs : List X) (x : X) → Contains xs x → IsIn x xs
  in_from_contains [] x c = absurd (omega (arith, c.1))
  in_from_contains (y ∷ ys) x (zero, lt, e) = inl e
  in_from_contains (y ∷ ys) x (suc k, lt, e) = inr (in_from_contains ys x (k, omega arith, e))

  pub contains_from_in : (xs : List X) (x : X) → IsIn x xs → Contains xs x
  contains_from_in [] x h = absurd h
  contains_from_in (y ∷ ys) x (inl e) = (0, omega arith, e)
  contains_from_in (y ∷ ys) x (inr h) = let c = contains_from_in ys x h in (suc c.0, omega (arith, c.1), c.2)

  pub all_from_in : (P : X → Type 0) (xs : List X) → ((x : X) → IsIn x xs → P x) → AllByRecursion P xs
  all_from_in P [] h = tt
  all_from_in P (x ∷ xs) h = (h x (inl refl), all_from_in P xs (λ y k. h y (inr k)))

  pub all_in : (P : X → Type 0) (xs : List X) (x : X) → AllByRecursion P xs → IsIn x xs → P x
  all_in P [] x all h = absurd h
  all_in P (y ∷ ys) x all (inl e) = subst P e all.0
  all_in P (y ∷ ys) x all (inr h) = all_in P ys x all.1 h

  pub All-from_in : (P : X → Type 0) (xs : List X) → ((x : X) → IsIn x xs → P x) → All P xs
  All-from_in P xs h = All-from_recursion P xs (all_from_in P xs h)

  pub All-in : (P : X → Type 0) (xs : List X) (x : X) → All P xs → IsIn x xs → P x
  All-in P xs x all h = all_in P xs x (recursion_from_All P xs all) h

  pub in_append_left : (xs ys : List X) (x : X) → IsIn x xs → IsIn x (xs ++ ys)
  in_append_left [] ys x h = absurd h
  in_append_left (z ∷ zs) ys x (inl e) = inl e
  in_append_left (z ∷ zs) ys x (inr h) = inr (in_append_left zs ys x h)

  pub in_append_right : (xs ys : List X) (x : X) → IsIn x ys → IsIn x (xs ++ ys)
  in_append_right [] ys x h = h
  in_append_right (z ∷ zs) ys x h = inr (in_append_right zs ys x h)

  pub in_append_cases : (xs ys : List X) (x : X) → IsIn x (xs ++ ys) → IsIn x xs ⊎ IsIn x ys
  in_append_cases [] ys x h = inr h
  in_append_cases (z ∷ zs) ys x (inl e) = inl (inl e)
  in_append_cases (z ∷ zs) ys x (inr h) = elim (in_append_cases zs ys x h) [ inl k ↦ inl (inr k) | inr k ↦ inr k ]

  pub in_filter : (q : X → Bool) (xs : List X) (x : X) → IsIn x xs → q x ≡ true → IsIn x (filter q xs)
  in_filter q [] x h k = absurd h
  in_filter q (y ∷ ys) x (inl e) k = subst (λ z. IsIn z (filter q (y ∷ ys))) e (let j : q y ≡ true = subst (λ z. q z ≡ true) (sym e) k in rw j (inl refl))
  in_filter q (y ∷ ys) x (inr h) k = elim (cases_Bool (q y)) [ inl j ↦ rw j (inr (in_filter q ys x h k)) | inr j ↦ rw j (in_filter q ys x h k) ]

  in_head : (q : X → Bool) (x y : X) (ys zs : List X) → q y ≡ true → (IsIn x zs → IsIn x ys × (q x ≡ true)) → IsIn x (y ∷ zs) → IsIn x (y ∷ ys) × (q x ≡ true)
  in_head q x y ys zs j more (inl e) = (inl e, subst (λ z. q z ≡ true) e j)
  in_head q x y ys zs j more (inr k) = let r = more k in (inr r.0, r.1)

  pub in_filter_parts : (q : X → Bool) (xs : List X) (x : X) → IsIn x (filter q xs) → IsIn x xs × (q x ≡ true)
  in_filter_parts q [] x h = absurd h
  in_filter_parts q (y ∷ ys) x h = elim (cases_Bool (q y)) [
    | inl j ↦ in_head q x y ys (filter q ys) j (in_filter_parts q ys x) (rw j at h)
    | inr j ↦ (let k = in_filter_parts q ys x (rw j at h) in (inr k.0, k.1))
  ]

  pub in_any : (p : X → Bool) (xs : List X) → list_any p xs ≡ true → (x : X) × IsIn x xs × (p x ≡ true)
  in_any p [] h = absurd (cc)
  in_any p (y ∷ ys) h = elim (or_cases (p y) (list_any p ys) h) [
    | inl k ↦ (y, inl refl, k)
    | inr k ↦ (let r = in_any p ys k in (r.0, inr r.1, r.2))
  ]

  pub none_in : (p : X → Bool) (xs : List X) (x : X) → list_any p xs ≡ false → IsIn x xs → p x ≡ false
  none_in p [] x h k = absurd k
  none_in p (y ∷ ys) x h (inl e) = subst (λ z. p z ≡ false) e (or_parts (p y) (list_any p ys) h).0
  none_in p (y ∷ ys) x h (inr k) = none_in p ys x (or_parts (p y) (list_any p ys) h).1 k

  pub pairs_append : (R : X → X → Type 0) (xs ys : List X) → PairsByRecursion R xs → PairsByRecursion R ys → ((x y : X) → IsIn x xs → IsIn y ys → R x y)
      → PairsByRecursion R (xs ++ ys)
  pairs_append R [] ys p q h = q
  pairs_append R (x ∷ xs) ys p q h = (
    all_from_in (R x) (xs ++ ys) (λ y k. elim (in_append_cases xs ys y k) [ inl j ↦ all_in (R x) xs y p.0 j | inr j ↦ h x y (inl refl) j ]),
    pairs_append R xs ys p.1 q (λ a b k j. h a b (inr k) j),
  )

  pub pairs_filter : (R : X → X → Type 0) (q : X → Bool) (xs : List X) → PairsByRecursion R xs → PairsByRecursion R (filter q xs)
  pairs_filter R q [] p = tt
  pairs_filter R q (x ∷ xs) p = elim (cases_Bool (q x)) [
    | inl j ↦ rw j (all_from_in (R x) (filter q xs) (λ y k. all_in (R x) xs y p.0 (in_filter_parts q xs y k).0), pairs_filter R q xs p.1)
    | inr j ↦ rw j (pairs_filter R q xs p.1)
  ]

  pub pairs_weaker : (R S : X → X → Type 0) (xs : List X) → ((x y : X) → R x y → S x y) → PairsByRecursion R xs → PairsByRecursion S xs
  pairs_weaker R S [] f p = tt
  pairs_weaker R S (x ∷ xs) f p = (all_from_in (S x) xs (λ y k. f x y (all_in (R x) xs y p.0 k)), pairs_weaker R S xs f p.1)

  pub pairs_both : (R S : X → X → Type 0) (xs : List X) → PairsByRecursion R xs → PairsByRecursion S xs → PairsByRecursion (λ x y. R x y × S x y) xs
  pairs_both R S [] p q = tt
  pairs_both R S (x ∷ xs) p q = (all_from_in (λ y. R x y × S x y) xs (λ y h. (all_in (R x) xs y p.0 h, all_in (S x) xs y q.0 h)), pairs_both R S xs p.1 q.1)

  pub pairs_from_in : (R : X → X → Type 0) (xs : List X) → ((x y : X) → IsIn x xs → IsIn y xs → R x y) → PairsByRecursion R xs
  pairs_from_in R [] f = tt
  pairs_from_in R (x ∷ xs) f = (all_from_in (R x) xs (λ y h. f x y (inl refl) (inr h)), pairs_from_in R xs (λ y z h k. f y z (inr h) (inr k)))

  pub pairs_prop : (R : X → X → Type 0) → ((x y : X) → IsProp (R x y)) → (xs : List X) → IsProp (PairsByRecursion R xs)
  pairs_prop R p [] = hlevel
  pairs_prop R p (x ∷ xs) = hlevel (AllByRecursion-prop (R x) (p x) xs, pairs_prop R p xs)

  pub AllPairs-from_recursion : (R : X → X → Type 0) (xs : List X) → PairsByRecursion R xs → AllPairs R xs
  AllPairs-from_recursion R [] p i j d lt in' = absurd (omega arith)
  AllPairs-from_recursion R (x ∷ xs) p i zero d lt in' = absurd (omega arith)
  AllPairs-from_recursion R (x ∷ xs) p zero (suc j) d lt in' = All-from_recursion (R x) xs p.0 j d (omega arith)
  AllPairs-from_recursion R (x ∷ xs) p (suc i) (suc j) d lt in' = AllPairs-from_recursion R xs p.1 i j d (omega arith) (omega arith)

  pub recursion_from_AllPairs : (R : X → X → Type 0) (xs : List X) → AllPairs R xs → PairsByRecursion R xs
  recursion_from_AllPairs R [] p = tt
  recursion_from_AllPairs R (x ∷ xs) p = (
    recursion_from_All (R x) xs (λ k d in'. p 0 (suc k) d (omega arith) (omega arith)),
    recursion_from_AllPairs R xs (λ i j d lt in'. p (suc i) (suc j) d (omega arith) (omega arith)),
  )

  in_cons_option : (o : Option X) (ys : List X) (y : X) → IsIn y (cons_option o ys) → (o ≡ Some y) ⊎ IsIn y ys
  in_cons_option None ys y h = inr h
  in_cons_option (Some z) ys y (inl e) = inl (rw e refl)
  in_cons_option (Some z) ys y (inr h) = inr h

  in_cons_later : (o : Option X) (ys : List X) (y : X) → IsIn y ys → IsIn y (cons_option o ys)
  in_cons_later None ys y h = h
  in_cons_later (Some z) ys y h = inr h

  pairs_cons_option : (S : X → X → Type 0) (o : Option X) (ys : List X) → IfSome o (λ y. AllByRecursion (S y) ys) → PairsByRecursion S ys
      → PairsByRecursion S (cons_option o ys)
  pairs_cons_option S None ys h p = p
  pairs_cons_option S (Some y) ys h p = (h, p)

module _ {X Y : Type 0} where
  pub in_map_parts : (f : X → Y) (xs : List X) (y : Y) → IsIn y (map f xs) → (x : X) × IsIn x xs × (f x ≡ y)
  in_map_parts f [] y h = absurd h
  in_map_parts f (x ∷ xs) y (inl e) = (x, inl refl, e)
  in_map_parts f (x ∷ xs) y (inr h) = let r = in_map_parts f xs y h in (r.0, inr r.1, r.2)

  pub pairs_map : (R : Y → Y → Type 0) (f : X → Y) (xs : List X) → PairsByRecursion (λ x y. R (f x) (f y)) xs → PairsByRecursion R (map f xs)
  pairs_map R f [] p = tt
  pairs_map R f (x ∷ xs) p = (
    all_from_in (R (f x)) (map f xs) (λ y k. let r = in_map_parts f xs y k in subst (R (f x)) r.2 (all_in (λ z. R (f x) (f z)) xs r.0 p.0 r.1)),
    pairs_map R f xs p.1,
  )

  pub in_filter_map : (g : X → Option Y) (xs : List X) (x : X) (y : Y) → IsIn x xs → g x ≡ Some y → IsIn y (filter_map g xs)
  in_filter_map g [] x y h e = absurd h
  in_filter_map g (z ∷ zs) x y (inl k) e = let j : g z ≡ Some y = subst (λ w. g w ≡ Some y) (sym k) e in rw j (inl refl)
  in_filter_map g (z ∷ zs) x y (inr h) e = in_cons_later (g z) (filter_map g zs) y (in_filter_map g zs x y h e)

  pub in_filter_map_parts : (g : X → Option Y) (xs : List X) (y : Y) → IsIn y (filter_map g xs) → (x : X) × IsIn x xs × (g x ≡ Some y)
  in_filter_map_parts g [] y h = absurd h
  in_filter_map_parts g (x ∷ xs) y h = elim (in_cons_option (g x) (filter_map g xs) y h) [
    | inl e ↦ (x, inl refl, e)
    | inr k ↦ (let r = in_filter_map_parts g xs y k in (r.0, inr r.1, r.2))
  ]

  -- what the function gives of an element is among what it gives of the list
  pub contains_filter_map : (g : X → Option Y) (xs : List X) (x : X) (y : Y) → Contains xs x → g x ≡ Some y → Contains (filter_map g xs) y
  contains_filter_map g xs x y h e = contains_from_in (filter_map g xs) y (in_filter_map g xs x y (in_from_contains xs x h) e)

  -- and it is given of one of them
  pub contains_filter_map_parts : (g : X → Option Y) (xs : List X) (y : Y) → Contains (filter_map g xs) y → (x : X) × Contains xs x × (g x ≡ Some y)
  contains_filter_map_parts g xs y h =
      let r = in_filter_map_parts g xs y (in_from_contains (filter_map g xs) y h) in
      (r.0, contains_from_in xs r.0 r.1, r.2)

  pub in_flat_map : (f : X → List Y) (xs : List X) (x : X) (y : Y) → IsIn x xs → IsIn y (f x) → IsIn y (flat_map f xs)
  in_flat_map f [] x y h k = absurd h
  in_flat_map f (z ∷ zs) x y (inl e) k = in_append_left (f z) (flat_map f zs) y (subst (λ w. IsIn y (f w)) (sym e) k)
  in_flat_map f (z ∷ zs) x y (inr h) k = in_append_right (f z) (flat_map f zs) y (in_flat_map f zs x y h k)

  pub in_flat_map_parts : (f : X → List Y) (xs : List X) (y : Y) → IsIn y (flat_map f xs) → (x : X) × IsIn x xs × IsIn y (f x)
  in_flat_map_parts f [] y h = absurd h
  in_flat_map_parts f (x ∷ xs) y h = elim (in_append_cases (f x) (flat_map f xs) y h) [
    | inl k ↦ (x, inl refl, k)
    | inr k ↦ (let r = in_flat_map_parts f xs y k in (r.0, inr r.1, r.2))
  ]

  pub pairs_filter_map : (R : X → X → Type 0) (S : Y → Y → Type 0) (g : X → Option Y) (xs : List X)
      → ((x z : X) (y w : Y) → R x z → g x ≡ Some y → g z ≡ Some w → S y w) → PairsByRecursion R xs → PairsByRecursion S (filter_map g xs)
  pairs_filter_map R S g [] f p = tt
  pairs_filter_map R S g (x ∷ xs) f p =
      pairs_cons_option S (g x) (filter_map g xs)
      (if_some (λ y. AllByRecursion (S y) (filter_map g xs)) (g x) (λ y e. all_from_in (S y) (filter_map g xs)
      (λ w k. let r = in_filter_map_parts g xs w k in f x r.0 y w (all_in (R x) xs r.0 p.0 r.1) e r.2)))
      (pairs_filter_map R S g xs f p.1)
