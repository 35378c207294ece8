-- A longer front decides what a shorter one does.
use Rattle.std.proofs.Common.{◌≡◌, ℕ, ◌+◌, ◌<◌, ◌≤◌, Bool, true, false, ◌||◌, ◌&&◌, List, [], ◌∷◌, ◌++◌, length, length-append, take, drop, min}
use Rattle.std.proofs.Common.{Option, Some, None, refl, sym, ◌∙◌, ap, subst, arith, inl, inr, eqb, leb, ltb}
use Rattle.std.specs.Prelude.{◌==◌, filter}
use Rattle.std.specs.List.{list_all, list_any}
use Rattle.std.proofs.lemmas.Bool.{and_from, and_parts, cases_Bool, eq-eqb, eqb-true, le-leb, leb-true, or_left, or_right}
use Rattle.std.proofs.lemmas.Bool.Decides.{nat_tests}
use Rattle.std.proofs.lemmas.List.{take-append-drop, take-take}
use Rattle.std.proofs.lemmas.List.Elements.{filter-append}
use Rattle.tao_base.specs.declared.edge.Edge.{Edge}
use Rattle.tao_base.specs.declared.query.Query.{Query}
use Rattle.tao_base.specs.declared.query.Query.TheVariants.{ObjGet, AssocGet, AssocCount, AssocRange, AssocTimeRange}
use Rattle.graph_model.specs.Edges.{IsNewestFirst}
use Rattle.graph_model.specs.Prefixes.{count_within, decides, ends_below, ends_below_given, is_empty_span}
use Rattle.graph_model.specs.Answers.{at_least, at_most}
use Rattle.list_prefix.proofs.Changed.{in_order_take}
use Rattle.list_prefix.proofs.Spans.{time_falls}
use Rattle.list_prefix.specs.Fronts.{IsLeftOpen}
use Rattle.list_prefix.specs.ListPrefix.{CanBegin}

or_mono : (a b c d : Bool) → (a ≡ true → c ≡ true) → (b ≡ true → d ≡ true) → (a || b) ≡ true → (c || d) ≡ true
or_mono true b c d f g h = or_left c d (f refl)
or_mono false b c d f g h = or_right c d (g h)

-- the first edges are all of them, and so are those of a longer front
complete_longer : (front rest : List Edge) (total : ℕ) → length (front ++ rest) ≤ total → eqb (length front) total ≡ true
    → eqb (length (front ++ rest)) total ≡ true
complete_longer front rest total most h =
    let e = eqb-true (length front) total h in let more = length-append front rest in eq-eqb (length (front ++ rest)) total (omega arith)

inside_longer : (n : ℕ) (front rest : List Edge) → leb n (length front) ≡ true → leb n (length (front ++ rest)) ≡ true
inside_longer n front rest h = let le = leb-true n (length front) h in let more = length-append front rest in le-leb n (length (front ++ rest)) (omega arith)

within_longer : (n low high : ℕ) (front rest : List Edge) → leb n (count_within (Some low) (Some high) front) ≡ true
    → leb n (count_within (Some low) (Some high) (front ++ rest)) ≡ true
within_longer n low high front rest h =
    let timely : Edge → Bool = λ e. at_least (Some low) e.time && at_most (Some high) e.time in
    let le = leb-true n (length (filter timely front)) h in
    let more = ap length (filter-append timely front rest) ∙ length-append (filter timely front) (filter timely rest) in
    le-leb n (length (filter timely (front ++ rest))) (omega arith)

below_last : (low : ℕ) (x : Edge) (xs : List Edge) → IsNewestFirst (x ∷ xs) → x.time < low → ends_below low (x ∷ xs) ≡ true
below_last low x [] sorted h = grind (arith, nat_tests)
below_last low x (y ∷ ys) sorted h = let falls = time_falls x y sorted.0.0 in below_last low y ys sorted.1 (omega arith)

ends_longer : (low : ℕ) (front rest : List Edge) → IsNewestFirst (front ++ rest) → ends_below low front ≡ true → ends_below low (front ++ rest) ≡ true
ends_longer low [] rest sorted h = absurd (cc)
ends_longer low (x ∷ []) rest sorted h = let below : x.time < low = grind (arith, nat_tests) in below_last low x rest sorted below
ends_longer low (x ∷ y ∷ ys) rest sorted h = ends_longer low (y ∷ ys) rest sorted.1 h

ends_given_longer : (low : Option ℕ) (front rest : List Edge) → IsNewestFirst (front ++ rest) → ends_below_given low front ≡ true
    → ends_below_given low (front ++ rest) ≡ true
ends_given_longer None front rest sorted h = h
ends_given_longer (Some low) front rest sorted h = ends_longer low front rest sorted h

any_longer : (id : ℕ) (front rest : List Edge) → list_any (λ e. id == e.id2) front ≡ true → list_any (λ e. id == e.id2) (front ++ rest) ≡ true
any_longer id [] rest h = absurd (cc)
any_longer id (x ∷ xs) rest h = or_mono (id == x.id2) (list_any (λ e. id == e.id2) xs) (id == x.id2) (list_any (λ e. id == e.id2) (xs ++ rest)) (λ k. k)
    (any_longer id xs rest) h

all_longer : (ids : List ℕ) (front rest : List Edge) → list_all (λ id. list_any (λ e. id == e.id2) front) ids ≡ true
    → list_all (λ id. list_any (λ e. id == e.id2) (front ++ rest)) ids ≡ true
all_longer [] front rest h = refl
all_longer (i ∷ ids) front rest h =
    let both = and_parts (list_any (λ e. i == e.id2) front) (list_all (λ id. list_any (λ e. id == e.id2) front) ids) h in
    and_from _ _ (any_longer i front rest both.0) (all_longer ids front rest both.1)

decides_longer : (bound total : ℕ) (q : Query) (front rest : List Edge) → IsNewestFirst (front ++ rest) → length (front ++ rest) ≤ total
    → decides bound front total q ≡ true → decides bound (front ++ rest) total q ≡ true
decides_longer bound total (ObjGet id) front rest sorted most h = h
decides_longer bound total (AssocCount id1 atype) front rest sorted most h = refl
decides_longer bound total (AssocRange id1 atype pos limit) front rest sorted most h =
    or_mono (eqb (length front) total || leb (pos + min limit bound) (length front)) (leb total pos) _ _
    (or_mono (eqb (length front) total) (leb (pos + min limit bound) (length front)) _ _ (complete_longer front rest total most)
    (inside_longer (pos + min limit bound) front rest))
    (λ k. k) h
decides_longer bound total (AssocTimeRange id1 atype high low limit) front rest sorted most h =
    or_mono (eqb (length front) total || ltb high low || leb (min limit bound) (count_within (Some low) (Some high) front)) (ends_below low front) _ _
    (or_mono (eqb (length front) total || ltb high low) (leb (min limit bound) (count_within (Some low) (Some high) front)) _ _
    (or_mono (eqb (length front) total) (ltb high low) _ _ (complete_longer front rest total most) (λ k. k))
    (within_longer (min limit bound) low high front rest))
    (ends_longer low front rest sorted) h
decides_longer bound total (AssocGet id1 atype ids high low) front rest sorted most h =
    or_mono (eqb (length front) total || list_all (λ id. list_any (λ e. id == e.id2) front) ids || is_empty_span low high) (ends_below_given low front) _ _
    (or_mono (eqb (length front) total || list_all (λ id. list_any (λ e. id == e.id2) front) ids) (is_empty_span low high) _ _
    (or_mono (eqb (length front) total) (list_all (λ id. list_any (λ e. id == e.id2) front) ids) _ _ (complete_longer front rest total most)
    (all_longer ids front rest))
    (λ k. k))
    (ends_given_longer low front rest sorted) h

pub begins_take : (n total : ℕ) (xs : List Edge) → CanBegin xs total → CanBegin (take n xs) total
begins_take n total xs begins = record {
  in_order = in_order_take n xs begins.in_order;
  within = (let parts = ap length (take-append-drop n xs) in let sum = length-append (take n xs) (drop n xs) in let most = begins.within in omega arith);
}

pub decides_more : (bound total : ℕ) (q : Query) (xs : List Edge) → CanBegin xs total → (j k : ℕ) → j ≤ k → decides bound (take j xs) total q ≡ true
    → decides bound (take k xs) total q ≡ true
decides_more bound total q xs begins j k le h =
    let longer : List Edge = take k xs in
    let begun = begins_take k total xs begins in
    let joined : take j xs ++ drop j longer ≡ longer = ap (λ ys. ys ++ drop j longer) (sym (take-take j k xs le)) ∙ take-append-drop j longer in
    subst (λ ys. decides bound ys total q ≡ true) joined
    (decides_longer bound total q (take j xs) (drop j longer) (subst IsNewestFirst (sym joined) begun.in_order.newest_first)
    (subst (λ ys. length ys ≤ total) (sym joined) begun.within) h)

-- a shorter front leaves open what a longer one does
pub open_fewer : (bound total : ℕ) (q : Query) (xs : List Edge) → CanBegin xs total → (j k : ℕ) → j ≤ k → decides bound (take k xs) total q ≡ false
    → decides bound (take j xs) total q ≡ false
open_fewer bound total q xs begins j k le h = elim (cases_Bool (decides bound (take j xs) total q)) [
  | inl t ↦ (let longer = decides_more bound total q xs begins j k le t in absurd (cc))
  | inr f ↦ f
]

pub left_open : (bound total most : ℕ) (q : Query) (xs : List Edge) → CanBegin xs total → most ≡ min bound (length xs)
    → decides bound (take most xs) total q ≡ false → IsLeftOpen bound xs total q
left_open bound total most q xs begins is h = λ count le. open_fewer bound total q xs begins count most (omega arith) h
