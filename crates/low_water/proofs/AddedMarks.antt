-- Lemmas on rising positions: one more put in, the low-water mark raised, the greatest.
use Rattle.std.proofs.Common.{◌≡◌, ℕ, ◌+◌, ◌<◌, ◌≤◌, Bool, true, false, ◌||◌, ◌&&◌, List, [], ◌∷◌, refl, arith, inl, inr}
use Rattle.std.specs.Prelude.{◌==◌, nat_le, fold, max, All}
use Rattle.std.specs.List.{list_any}
use Rattle.std.proofs.lemmas.Bool.{le-leb, lt-leb, leb-true, lt-ltb, le-ltb, eq-eqb, ne_eqb, eqb-true, cases_lt, cases_eq, or_right, or_left, or_cases}
use Rattle.std.proofs.lemmas.List.Elements.{All-nil, All-cons, All-head, All-tail}
use Rattle.tao_base.specs.Ids.{IsRising}
use Rattle.low_water.specs.Marks.{Marks, marks, is_marked, IsGreatest, IsWindow, inserted, marks_from, with_mark, AddsMark}
use Rattle.low_water.specs.Laws.{MarkAdds, TopIsGreatest}
use Rattle.tao_base.proofs.RisingNumbers.{rising_below}

abbrev pub any : ℕ → List ℕ → Bool
any q xs = list_any (λ x. q == x) xs

or_twice : (a b : Bool) → (a || b) ≡ (a || (a || b))
or_twice true b = refl
or_twice false b = refl

or_swap : (a b c : Bool) → (a || (b || c)) ≡ (b || (a || c))
or_swap true true c = refl
or_swap true false c = refl
or_swap false true c = refl
or_swap false false c = refl

or_assoc : (a b c : Bool) → ((a || b) || c) ≡ (a || (b || c))
or_assoc true b c = refl
or_assoc false b c = refl

pub or_false : (b : Bool) → b ≡ (b || false)
or_false true = refl
or_false false = refl

-- one number more is at most n + 1: n + 1 itself
le_next : (q n : ℕ) → nat_le q (n + 1) ≡ (nat_le q n || (q == n + 1))
le_next q n = elim (cases_lt n q) [
  | inr low ↦ rw (le-leb q n low, le-leb q (n + 1) (omega arith)) refl
  | inl high ↦ elim (cases_eq q (n + 1)) [
    | inl e ↦ rw (lt-leb q n high, eq-eqb q (n + 1) e, le-leb q (n + 1) (omega arith)) refl
    | inr ne ↦ rw (lt-leb q n high, ne_eqb q (n + 1) ne, lt-leb q (n + 1) (omega (arith, ne))) refl
  ]
]

-- the position put in is there, and all others stay
any-inserted : (q p : ℕ) (xs : List ℕ) → any q (inserted p xs) ≡ ((q == p) || any q xs)
any-inserted q p [] = refl
any-inserted q p (x ∷ xs) = elim (cases_lt p x) [
  | inl below ↦ rw (lt-ltb p x below) refl
  | inr over ↦ elim (cases_eq p x) [
    | inl e ↦ rw (le-ltb p x over, eq-eqb p x e, e) (or_twice (q == x) (any q xs))
    | inr ne ↦ rw (le-ltb p x over, ne_eqb p x ne, any-inserted q p xs) (or_swap (q == x) (q == p) (any q xs))
  ]
]

-- raising the low-water mark changes no position's mark
is_marked-raised : (q low : ℕ) (xs : List ℕ) → is_marked (marks_from low xs) q ≡ (nat_le q low || any q xs)
is_marked-raised q low [] = refl
is_marked-raised q low (x ∷ xs) = elim (cases_eq x (low + 1)) [
  | inl e ↦ rw (eq-eqb x (low + 1) e, is_marked-raised q x xs, e, le_next q low) (or_assoc (nat_le q low) (q == low + 1) (any q xs))
  | inr ne ↦ rw (ne_eqb x (low + 1) ne) refl
]

le-raised : (low : ℕ) (xs : List ℕ) → low ≤ (marks_from low xs).low
le-raised low [] = omega arith
le-raised low (x ∷ xs) = elim (cases_eq x (low + 1)) [
  | inl e ↦ rw (eq-eqb x (low + 1) e) (omega (arith, le-raised x xs))
  | inr ne ↦ rw (ne_eqb x (low + 1) ne) (omega arith)
]

rising-inserted : (n p : ℕ) (xs : List ℕ) → n < p → IsRising (n ∷ xs) → IsRising (n ∷ inserted p xs)
rising-inserted n p [] l r = (l, tt)
rising-inserted n p (x ∷ xs) l r = elim (cases_lt p x) [
  | inl below ↦ rw (lt-ltb p x below) (l, (below, r.1))
  | inr over ↦ elim (cases_eq p x) [
    | inl e ↦ rw (le-ltb p x over, eq-eqb p x e) r
    | inr ne ↦ rw (le-ltb p x over, ne_eqb p x ne) (r.0, rising-inserted x p xs (omega (arith, ne)) r.1)
  ]
]

rising-raised : (low : ℕ) (xs : List ℕ) → IsRising (low ∷ xs) → IsRising (((marks_from low xs).low + 1) ∷ (marks_from low xs).ahead)
rising-raised low [] r = tt
rising-raised low (x ∷ xs) r = elim (cases_eq x (low + 1)) [
  | inl e ↦ rw (eq-eqb x (low + 1) e) (rising-raised x xs r.1)
  | inr ne ↦ let up : low < x = r.0 in rw (ne_eqb x (low + 1) ne) (omega (arith, ne), r.1)
]

near-inserted : (p bound : ℕ) (xs : List ℕ) → p ≤ bound → All (λ q. q ≤ bound) xs → All (λ q. q ≤ bound) (inserted p xs)
near-inserted p bound [] l all = All-cons (λ q. q ≤ bound) p [] l all
near-inserted p bound (x ∷ xs) l all = elim (cases_lt p x) [
  | inl below ↦ rw (lt-ltb p x below) (All-cons (λ q. q ≤ bound) p (x ∷ xs) l all)
  | inr over ↦ elim (cases_eq p x) [
    | inl e ↦ rw (le-ltb p x over, eq-eqb p x e) all
    | inr ne ↦ rw (le-ltb p x over, ne_eqb p x ne) (All-cons (λ q. q ≤ bound) x (inserted p xs) (All-head (λ q. q ≤ bound) x xs all)
        (near-inserted p bound xs l (All-tail (λ q. q ≤ bound) x xs all)))
  ]
]

near-raised : (bound low : ℕ) (xs : List ℕ) → All (λ q. q ≤ bound) xs → All (λ q. q ≤ bound) (marks_from low xs).ahead
near-raised bound low [] all = all
near-raised bound low (x ∷ xs) all = elim (cases_eq x (low + 1)) [
  | inl e ↦ rw (eq-eqb x (low + 1) e) (near-raised bound x xs (All-tail (λ q. q ≤ bound) x xs all))
  | inr ne ↦ rw (ne_eqb x (low + 1) ne) all
]

-- no position up to n is among those that rise past n
pub any-rising : (q n : ℕ) (xs : List ℕ) → q ≤ n → IsRising (n ∷ xs) → any q xs ≡ false
any-rising q n [] l r = refl
any-rising q n (x ∷ xs) l r = let up : n < x = r.0 in rw (ne_eqb q x (λ e. omega arith)) (any-rising q x xs (omega arith) r.1)

pub window_greatest : (m : Marks) → IsWindow m → IsGreatest m
window_greatest m window = rw (lt-leb (m.low + 1) m.low (omega arith)) (any-rising (m.low + 1) (m.low + 1) m.ahead (omega arith) window.rising)

pub window_none : (low : ℕ) → IsWindow (marks low [])
window_none low = record { rising = tt; near = All-nil (λ q. q ≤ low + 1024) }

-- the cases of a mark: near, known, or too far ahead
pub near_is : (m : Marks) (p : ℕ) → m.low < p → p ≤ m.low + 1024 → with_mark p m ≡ marks_from m.low (inserted p m.ahead)
near_is m p over near = rw (lt-ltb m.low p over, le-leb p (m.low + 1024) near) refl

pub known_is : (m : Marks) (p : ℕ) → p ≤ m.low → with_mark p m ≡ m
known_is m p known = rw (le-ltb m.low p known) refl

pub far_is : (m : Marks) (p : ℕ) → m.low + 1024 < p → with_mark p m ≡ m
far_is m p far = rw (lt-ltb m.low p (omega arith), lt-leb p (m.low + 1024) far) refl

near_adds : (m : Marks) (p q : ℕ) → p ≤ m.low + 1024
    → is_marked (marks_from m.low (inserted p m.ahead)) q ≡ (is_marked m q || ((q == p) && nat_le p (m.low + 1024)))
near_adds m p q near = rw (is_marked-raised q m.low (inserted p m.ahead), any-inserted q p m.ahead, le-leb p (m.low + 1024) near)
    (last (nat_le q m.low) (q == p) (any q m.ahead))
  where
    last : (a b c : Bool) → (a || (b || c)) ≡ ((a || c) || (b && true))
    last true b c = refl
    last false true true = refl
    last false true false = refl
    last false false true = refl
    last false false false = refl

known_adds : (m : Marks) (p q : ℕ) → p ≤ m.low → is_marked m q ≡ (is_marked m q || ((q == p) && nat_le p (m.low + 1024)))
known_adds m p q known = elim (cases_eq q p) [
  | inl e ↦ rw (le-leb q m.low (omega arith)) refl
  | inr ne ↦ rw (ne_eqb q p ne) (or_false (is_marked m q))
]

far_adds : (m : Marks) (p q : ℕ) → m.low + 1024 < p → is_marked m q ≡ (is_marked m q || ((q == p) && nat_le p (m.low + 1024)))
far_adds m p q far = rw (lt-leb p (m.low + 1024) far) (none (is_marked m q) (q == p))
  where
    none : (a b : Bool) → a ≡ (a || (b && false))
    none true b = refl
    none false true = refl
    none false false = refl

window_later : (m : Marks) (p low : ℕ) → m.low ≤ low → p ≤ m.low + 1024 → All (λ q. q ≤ m.low + 1024) m.ahead → All (λ q. q ≤ low + 1024) (inserted p m.ahead)
window_later m p low later near all = near-inserted p (low + 1024) m.ahead (omega arith) (λ k d h. let below : _ ≤ m.low + 1024 = all k d h in omega arith)

-- what holds of the marks that a mark leaves
of_new : (m new : Marks) (p : ℕ) → with_mark p m ≡ new → AddsMark m new p → m.low ≤ new.low → (IsWindow m → IsWindow new) → MarkAdds m p
of_new m new p is adds later window = record {
  marked = λ q. rw is (adds q);
  later = rw is later;
  window = λ w. rw is (window w);
  greatest = λ w. rw is (window_greatest new (window w));
}

mark_near : (m : Marks) (p : ℕ) → m.low < p → p ≤ m.low + 1024 → MarkAdds m p
mark_near m p over near =
    let later = le-raised m.low (inserted p m.ahead) in
    of_new m (marks_from m.low (inserted p m.ahead)) p (near_is m p over near) (λ q. near_adds m p q near) later (λ w. record {
      rising = rising-raised m.low (inserted p m.ahead) (rising-inserted m.low p m.ahead over (rising_below m.low (m.low + 1) m.ahead (omega arith) w.rising));
      near = near-raised _ m.low (inserted p m.ahead) (window_later m p _ later near w.near);
    })

mark_unchanged : (m : Marks) (p : ℕ) → with_mark p m ≡ m → AddsMark m m p → MarkAdds m p
mark_unchanged m p is adds = of_new m m p is adds (omega arith) (λ w. w)

pub mark_adds : (m : Marks) (p : ℕ) → MarkAdds m p
mark_adds m p = elim (cases_lt m.low p) [
  | inr known ↦ mark_unchanged m p (known_is m p known) (λ q. known_adds m p q known)
  | inl over ↦ elim (cases_lt (m.low + 1024) p) [
    | inl far ↦ mark_unchanged m p (far_is m p far) (λ q. far_adds m p q far)
    | inr near ↦ mark_near m p over near
  ]
]

le-fold_max : (a : ℕ) (xs : List ℕ) → a ≤ fold max a xs
le-fold_max a [] = omega arith
le-fold_max a (x ∷ xs) = omega (arith, le-fold_max (max a x) xs)

fold_max-any : (q a : ℕ) (xs : List ℕ) → any q xs ≡ true → q ≤ fold max a xs
fold_max-any q a [] is = cc
fold_max-any q a (x ∷ xs) is = elim (or_cases (q == x) (any q xs) is) [
  | inl e ↦ omega (arith, eqb-true q x e, le-fold_max (max a x) xs)
  | inr in_rest ↦ fold_max-any q (max a x) xs in_rest
]

fold_max-is : (a : ℕ) (xs : List ℕ) → (nat_le (fold max a xs) a || any (fold max a xs) xs) ≡ true
fold_max-is a [] = rw (le-leb a a (omega arith)) refl
fold_max-is a (x ∷ xs) =
    let t : ℕ = fold max (max a x) xs in
    let t_is : t ≡ fold max (max a x) xs = refl in
    elim (or_cases (nat_le t (max a x)) (any t xs) (fold_max-is (max a x) xs)) [
      | inr in_rest ↦ or_right (nat_le t a) ((t == x) || any t xs) (or_right (t == x) (any t xs) in_rest)
      | inl low ↦ elim (cases_lt a x) [
        | inl up ↦ or_right (nat_le t a) ((t == x) || any t xs)
            (or_left (t == x) (any t xs) (eq-eqb t x (omega (arith, leb-true t (max a x) low, le-fold_max (max a x) xs))))
        | inr down ↦ or_left (nat_le t a) ((t == x) || any t xs) (le-leb t a (omega (arith, leb-true t (max a x) low)))
      ]
    ]

pub top_is : (m : Marks) → TopIsGreatest m
top_is m = record {
  marked = fold_max-is m.low m.ahead;
  greatest = λ q is. elim (or_cases (nat_le q m.low) (any q m.ahead) is) [
    | inl low ↦ omega (arith, leb-true q m.low low, le-fold_max m.low m.ahead)
    | inr in_ahead ↦ fold_max-any q m.low m.ahead in_ahead
  ];
}
