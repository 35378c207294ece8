-- Lemmas on the positions of a range that pass a test.
use Rattle.std.proofs.Common.{◌≡◌, ◌≢◌, ℕ, zero, suc, ◌+◌, ◌<◌, ◌≤◌, Bool, true, false, cond, List, [], ◌∷◌, refl, sym, ◌∙◌, ap, arith, inl, inr}
use Rattle.std.specs.Prelude.{filter, fold, max, All}
use Rattle.std.proofs.lemmas.Bool.{lt-ltb, le-ltb, eq-eqb, ne_eqb, cases_lt, cases_eq, cases_Bool, both_ways, cond-true}
use Rattle.std.proofs.lemmas.List.Elements.{All-nil, All-cons}
use Rattle.tao_base.specs.Ids.{IsRising}
use Rattle.low_water.specs.Marks.{marks, inserted, marks_from}
use Rattle.low_water.specs.RingWords.{positions}

-- none passes
pub none_of : (f : ℕ → Bool) (from n : ℕ) → ((q : ℕ) → from ≤ q → q < from + n → f q ≡ false) → filter f (positions from n) ≡ []
unfolding positions
none_of f from zero off = refl
none_of f from (suc n) off = rw (off from (omega arith) (omega arith)) (none_of f (from + 1) n (λ q l h. off q (omega arith) (omega arith)))

pub each_fails : (f : ℕ → Bool) (from n : ℕ) → filter f (positions from n) ≡ [] → (q : ℕ) → from ≤ q → q < from + n → f q ≡ false
unfolding positions
each_fails f from zero none q l h = absurd (omega arith)
each_fails f from (suc n) none q l h = elim (cases_Bool (f from)) [
  | inl t ↦ let some = rw t at none in cc
  | inr t ↦ let rest = rw t at none in elim (cases_eq from q) [
    | inl e ↦ ap f (sym e) ∙ t
    | inr ne ↦ each_fails f (from + 1) n rest q (omega (arith, ne)) (omega arith)
  ]
]

-- two tests agree in a range, and past it, up to the end of a longer one, none passes the second
longer : (f g : ℕ → Bool) (from n w : ℕ) → n ≤ w → ((q : ℕ) → from ≤ q → q < from + n → g q ≡ f q) → ((q : ℕ) → from + n ≤ q → q < from + w → g q ≡ false)
    → filter f (positions from n) ≡ filter g (positions from w)
unfolding positions
longer f g from zero w le same off = sym (none_of g from w (λ q l h. off q (omega arith) h))
longer f g from (suc n) zero le same off = absurd (omega arith)
longer f g from (suc n) (suc w) le same off =
    let rest = longer f g (from + 1) n w (omega arith) (λ q l h. same q (omega arith) (omega arith)) (λ q l h. off q (omega arith) (omega arith)) in
    let head = same from (omega arith) (omega arith) in
    elim (cases_Bool (f from)) [
      | inl t ↦ rw (head, t) (ap (λ l. from ∷ l) rest)
      | inr t ↦ rw (head, t) rest
    ]

-- those that pass rise
rising-filter : (f : ℕ → Bool) (below from n : ℕ) → below < from → IsRising (below ∷ filter f (positions from n))
unfolding positions
rising-filter f below from zero l = tt
rising-filter f below from (suc n) l = elim (cases_Bool (f from)) [
  | inl t ↦ rw t (l, rising-filter f from (from + 1) n (omega arith))
  | inr t ↦ rw t (rising-filter f below (from + 1) n (omega arith))
]

pub rising_past : (f : ℕ → Bool) (from n : ℕ) → f from ≡ false → IsRising (from ∷ filter f (positions from n))
unfolding positions
rising_past f from zero off = tt
rising_past f from (suc n) off = rw off (rising-filter f from (from + 1) n (omega arith))

pub near-filter : (f : ℕ → Bool) (bound from n : ℕ) → from + n ≤ bound + 1 → All (λ q. q ≤ bound) (filter f (positions from n))
unfolding positions
near-filter f bound from zero l = All-nil (λ q. q ≤ bound)
near-filter f bound from (suc n) l =
    let rest = near-filter f bound (from + 1) n (omega arith) in
    elim (cases_Bool (f from)) [
      | inl t ↦ rw t (All-cons (λ q. q ≤ bound) from (filter f (positions (from + 1) n)) (omega arith) rest)
      | inr t ↦ rw t rest
    ]

inserted_front : (p : ℕ) (xs : List ℕ) → IsRising (p ∷ xs) → inserted p xs ≡ p ∷ xs
inserted_front p [] r = refl
inserted_front p (x ∷ xs) r = rw (lt-ltb p x r.0) refl

inserted_later : (p x : ℕ) (xs : List ℕ) → x < p → inserted p (x ∷ xs) ≡ x ∷ inserted p xs
inserted_later p x xs l = rw (le-ltb p x (omega arith), ne_eqb p x (λ e. omega arith)) refl

inserted_known : (p : ℕ) (xs : List ℕ) → inserted p (p ∷ xs) ≡ p ∷ xs
inserted_known p xs = rw (le-ltb p p (omega arith), eq-eqb p p refl) refl

-- the first position is the one put in
here : (f g : ℕ → Bool) (from p : ℕ) (xs ys : List ℕ) → from ≡ p → g p ≡ true → IsRising (from ∷ xs) → xs ≡ ys
    → inserted p (cond (f from) (from ∷ xs) xs) ≡ cond (g from) (from ∷ ys) ys
here f g from p xs ys e on rising rest =
    let on_from : g from ≡ true = ap g e ∙ on in
    let last : inserted from (cond (f from) (from ∷ xs) xs) ≡ from ∷ xs =
    elim (cases_Bool (f from)) [ inl t ↦ rw t (inserted_known from xs) | inr t ↦ rw t (inserted_front from xs rising) ] in
    ap (λ k. inserted k (cond (f from) (from ∷ xs) xs)) (sym e) ∙ last ∙ ap (λ l. from ∷ l) rest ∙ sym (cond-true (g from) (from ∷ ys) ys on_from)

-- a test that one more position passes
pub filter-inserted : (f g : ℕ → Bool) (p from n : ℕ) → from ≤ p → p < from + n → g p ≡ true → ((q : ℕ) → from ≤ q → q < from + n → q ≢ p → g q ≡ f q)
    → inserted p (filter f (positions from n)) ≡ filter g (positions from n)
unfolding positions
filter-inserted f g p from zero l h on same = absurd (omega arith)
filter-inserted f g p from (suc n) l h on same = elim (cases_eq from p) [
  | inl e ↦
      let rest : filter f (positions (from + 1) n) ≡ filter g (positions (from + 1) n) =
      longer f g (from + 1) n n (omega arith) (λ q a b. same q (omega arith) (omega arith) (λ is. omega arith)) (λ q a b. absurd (omega arith)) in
      let rising = rising-filter f from (from + 1) n (omega arith) in
      here f g from p (filter f (positions (from + 1) n)) (filter g (positions (from + 1) n)) e on rising rest
  | inr ne ↦
      let head = same from (omega arith) (omega arith) ne in
      let rest = filter-inserted f g p (from + 1) n (omega (arith, ne)) (omega arith) on (λ q a b apart. same q (omega arith) (omega arith) apart) in
      elim (cases_Bool (f from)) [
        | inl t ↦ rw (head, t) (inserted_later p from (filter f (positions (from + 1) n)) (omega (arith, ne)) ∙ ap (λ xs. from ∷ xs) rest)
        | inr t ↦ rw (head, t) rest
      ]
]

raised_stays : (low : ℕ) (xs : List ℕ) → IsRising ((low + 1) ∷ xs) → marks_from low xs ≡ marks low xs
raised_stays low [] r = refl
raised_stays low (x ∷ xs) r = let up : low + 1 < x = r.0 in rw (ne_eqb x (low + 1) (λ e. omega arith)) refl

raised_over : (low : ℕ) (xs : List ℕ) → marks_from low ((low + 1) ∷ xs) ≡ marks_from (low + 1) xs
raised_over low xs = rw (eq-eqb (low + 1) (low + 1) refl) refl

-- those up to at pass, at + 1 doesn't, and a window after at has those above it
pub filter-raised : (f g : ℕ → Bool) (low at n w : ℕ) → low ≤ at → at ≤ low + n → low + n ≤ at + w → ((q : ℕ) → low < q → q ≤ at → f q ≡ true)
    → ((q : ℕ) → at < q → q ≤ low + n → g q ≡ f q) → ((q : ℕ) → low + n < q → q ≤ at + w → g q ≡ false) → g (at + 1) ≡ false
    → marks_from low (filter f (positions (low + 1) n)) ≡ marks at (filter g (positions (at + 1) w))
unfolding positions
filter-raised f g low at zero w from to fits gone rest fresh next =
    let here : at ≡ low = omega arith in
    rw (none_of g (at + 1) w (λ q l h. fresh q (omega arith) (omega arith)), here) refl
filter-raised f g low at (suc n) w from to fits gone rest fresh next = elim (cases_lt low at) [
  | inl below ↦
      let more = filter-raised f g (low + 1) at n w (omega arith) (omega arith) (omega arith) (λ q l h. gone q (omega arith) h)
      (λ q l h. rest q l (omega arith)) (λ q l h. fresh q (omega arith) h) next in
      rw (gone (low + 1) (omega arith) (omega arith)) (raised_over low (filter f (positions (low + 1 + 1) n)) ∙ more)
  | inr above ↦
      let here : low ≡ at = omega arith in
      let off : f (low + 1) ≡ false = sym (rest (low + 1) (omega arith) (omega arith)) ∙ ap (λ k. g (k + 1)) here ∙ next in
      raised_stays low (filter f (positions (low + 1) (suc n))) (rising_past f (low + 1) (suc n) off)
      ∙ ap (λ xs. marks low xs) (longer f g (low + 1) (suc n) w (omega arith) (λ q l h. rest q (omega arith) (omega arith))
      (λ q l h. fresh q (omega arith) (omega arith)))
      ∙ ap (λ k. marks k (filter g (positions (k + 1) w))) here
]

-- the greatest that passes
pub fold_max-filter : (f : ℕ → Bool) (a top from n : ℕ) → a ≤ top → top < from + n → (top < from → a ≡ top) → (from ≤ top → f top ≡ true)
    → ((q : ℕ) → top < q → q < from + n → f q ≡ false) → fold max a (filter f (positions from n)) ≡ top
unfolding positions
fold_max-filter f a top from zero low fits before on off = before (omega arith)
fold_max-filter f a top from (suc n) low fits before on off = elim (cases_Bool (f from)) [
  | inl t ↦
      let within : from ≤ top = elim (cases_lt top from) [ inl over ↦ absurd (both_ways _ (off from over (omega arith)) t) | inr under ↦ under ] in
      rw t (fold_max-filter f (max a from) top (from + 1) n (omega arith) (omega arith) (λ l. omega arith) (λ l. on within) (λ q l h. off q l (omega arith)))
  | inr t ↦
      let apart : top ≢ from = (λ e. both_ways _ t (sym (ap f e) ∙ on (omega arith))) in
      rw t (fold_max-filter f a top (from + 1) n low (omega arith) (λ l. before (omega (arith, apart))) (λ l. on (omega arith))
      (λ q l h. off q l (omega arith)))
]
