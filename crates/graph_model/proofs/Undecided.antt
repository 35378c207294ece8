-- What the table leaves undecided is open: two lists that begin so, which differ in one stamp, answer differently.
use Rattle.std.proofs.Common.{◌≡◌, ◌≢◌, ℕ, zero, suc, ◌+◌, ◌-◌, ◌<◌, ◌≤◌, Bool, true, false, List, [], ◌∷◌, ◌++◌, append_assoc, inl, inr, length}
use Rattle.std.proofs.Common.{length-append, take, drop, refl, sym, ap, ◌∙◌, subst, eqb, ltb, leb, min, arith}
use Rattle.std.proofs.lemmas.Bool.{cases_Bool, or_parts, or_right}
use Rattle.std.proofs.lemmas.Bool.Decides.{nat_tests}
use Rattle.std.proofs.lemmas.List.{append_cancel_left, drop-append-le, length-drop, length-take, take-append-drop}
use Rattle.std.proofs.lemmas.List.Elements.{filter-append}
use Rattle.std.specs.Prelude.{Option, Some, filter, not, ◌||◌, ◌&&◌, ◌==◌}
use Rattle.std.specs.List.{list_any, list_all, AllByRecursion}
use Rattle.tao_base.specs.declared.edge.Edge.{Edge}
use Rattle.tao_base.specs.declared.id.AType.{AType}
use Rattle.tao_base.specs.declared.query.Query.{Query}
use Rattle.tao_base.specs.declared.query.Query.TheVariants.{ObjGet, AssocGet, AssocCount, AssocRange, AssocTimeRange}
use Rattle.graph_model.proofs.Applied.{is_prefix, length_insert}
use Rattle.graph_model.proofs.Later.{all_both, all_filter, all_take, EachWithLater-across, EachWithLater-append, EachWithLater-filter}
use Rattle.graph_model.proofs.Later.{EachWithLater-left, EachWithLater-right, EachWithLater-take}
use Rattle.graph_model.proofs.Lists.{all_insert, distinct_insert, sorted_insert, without_none, without_same, eqb-same}
use Rattle.graph_model.specs.Answers.{at_least, at_most, list_answer, range, to_ids, within}
use Rattle.graph_model.specs.Edges.{AreDistinct, IsInListOrder, IsNewestFirst, Without, insert_edge, is_newer, without_edge}
use Rattle.graph_model.specs.PrefixLaws.{CanStandBehind, IsOpen, UndecidedIsOpen, asks_for}
use Rattle.graph_model.specs.Prefixes.{IsPrefixOf, count_within, decides, ends_below, ends_below_given, is_empty_span}

-- the edge with another stamp
abbrev restamped : Edge → Edge
restamped e = record e { stamp = record { number = e.stamp.number + 1; shard = e.stamp.shard } }

restamped-differs : (e : Edge) → e ≢ restamped e
restamped-differs e h = let n : e.stamp.number ≡ e.stamp.number + 1 = ap (λ (x : Edge). x.stamp.number) h in omega arith

-- lists that differ in one place
take_differs : (used : ℕ) (ps : List Edge) (x y : Edge) (xs : List Edge) → length ps < used → x ≢ y → take used (ps ++ x ∷ xs) ≡ take used (ps ++ y ∷ xs) → ⊥
take_differs zero ps x y xs lt ne h = omega arith
take_differs (suc used) [] x y xs lt ne h = ne (cc)
take_differs (suc used) (p ∷ ps) x y xs lt ne h = take_differs used ps x y xs (omega arith) ne (cc)

append_differs : (ps : List Edge) (x y : Edge) (xs : List Edge) → x ≢ y → ps ++ x ∷ xs ≡ ps ++ y ∷ xs → ⊥
append_differs ps x y xs ne h = let e = append_cancel_left ps (x ∷ xs) (y ∷ xs) h in ne (cc)

-- another stamp leaves a list in order
all_restamped : (P : Edge → Type 0) → ((e : Edge) → P e → P (restamped e)) → (qs : List Edge) (g : Edge) (xs : List Edge) → AllByRecursion P (qs ++ g ∷ xs)
    → AllByRecursion P (qs ++ restamped g ∷ xs)
all_restamped P blind [] g xs h = (blind g h.0, h.1)
all_restamped P blind (q ∷ qs) g xs h = (h.0, all_restamped P blind qs g xs h.1)

newest_restamped : (qs : List Edge) (g : Edge) (xs : List Edge) → IsNewestFirst (qs ++ g ∷ xs) → IsNewestFirst (qs ++ restamped g ∷ xs)
newest_restamped [] g xs h = h
newest_restamped (q ∷ qs) g xs h = (all_restamped (λ e. is_newer q e ≡ true) (λ e k. k) qs g xs h.0, newest_restamped qs g xs h.1)

distinct_restamped : (qs : List Edge) (g : Edge) (xs : List Edge) → AreDistinct (qs ++ g ∷ xs) → AreDistinct (qs ++ restamped g ∷ xs)
distinct_restamped [] g xs h = h
distinct_restamped (q ∷ qs) g xs h = (all_restamped (λ e. e.id2 ≢ q.id2) (λ e k. k) qs g xs h.0, distinct_restamped qs g xs h.1)

in_order_restamped : (edges qs : List Edge) (g : Edge) (xs : List Edge) → IsInListOrder (edges ++ (qs ++ g ∷ xs))
    → IsInListOrder (edges ++ (qs ++ restamped g ∷ xs))
in_order_restamped edges qs g xs h =
    let apart : IsInListOrder ((edges ++ qs) ++ g ∷ xs) = subst IsInListOrder (sym (append_assoc edges qs (g ∷ xs))) h in
    subst IsInListOrder (append_assoc edges qs (restamped g ∷ xs)) (record {
      newest_first = newest_restamped (edges ++ qs) g xs apart.newest_first;
      distinct = distinct_restamped (edges ++ qs) g xs apart.distinct;
    })

-- a list in order and the same with another stamp at one place behind the first edges
opened : (bound : ℕ) (edges qs : List Edge) (g : Edge) (xs : List Edge) (total : ℕ) (q : Query) → total ≡ length edges + length (qs ++ g ∷ xs)
    → IsInListOrder (edges ++ (qs ++ g ∷ xs))
    → list_answer bound (edges ++ (qs ++ g ∷ xs)) total q ≢ list_answer bound (edges ++ (qs ++ restamped g ∷ xs)) total q → IsOpen bound edges total q
opened bound edges qs g xs total q count order differ =
    let long = length-append qs (g ∷ xs) in
    let same = length-append qs (restamped g ∷ xs) in
    record {
      one = edges ++ (qs ++ g ∷ xs);
      other = edges ++ (qs ++ restamped g ∷ xs);
      one_begins = is_prefix edges (qs ++ g ∷ xs) total count;
      other_begins = is_prefix edges (qs ++ restamped g ∷ xs) total (omega arith);
      one_in_order = order;
      other_in_order = in_order_restamped edges qs g xs order;
      differ = differ;
    }

-- the first element that passes a test
split_first : (p : Edge → Bool) (xs : List Edge) → list_any p xs ≡ true → (qs : List Edge) × (g : Edge) × (ys : List Edge) × (xs ≡ qs ++ g ∷ ys)
    × (filter p qs ≡ []) × (p g ≡ true)
split_first p [] h = absurd (cc)
split_first p (x ∷ xs) h = elim (cases_Bool (p x)) [
  | inl k ↦ ([], x, xs, refl, refl, k)
  | inr k ↦ (let w = split_first p xs (rw k at h) in (x ∷ w.0, w.1, w.2, ap (λ ys. x ∷ ys) w.3, rw k w.4, w.5))
]

filtered : (p : Edge → Bool) (edges qs : List Edge) (g : Edge) (ys : List Edge) → filter p qs ≡ [] → p g ≡ true
    → filter p (edges ++ (qs ++ g ∷ ys)) ≡ filter p edges ++ g ∷ filter p ys
filtered p edges qs g ys none passes = rw (filter-append p edges (qs ++ g ∷ ys), filter-append p qs (g ∷ ys), none, passes) refl

-- an edge takes the place of one behind the first edges
length_without : (i : ℕ) (xs : List Edge) → AreDistinct xs → length xs ≤ length (without_edge i xs) + 1
length_without i [] d = omega arith
length_without i (x ∷ xs) d = elim (cases_Bool (x.id2 == i)) [
  | inl k ↦ (let gone : without_edge i xs ≡ xs = without_same i xs (subst (λ j. Without j xs) (eqb-same x.id2 i k) d.0) in rw (k, gone) (omega arith))
  | inr k ↦ (let more = length_without i xs d.1 in rw k (omega arith))
]

any_insert : (p : Edge → Bool) (f : Edge) (xs : List Edge) → p f ≡ true → list_any p (insert_edge f xs) ≡ true
any_insert p f [] h = rw h refl
any_insert p f (x ∷ xs) h = elim (cases_Bool (is_newer f x)) [
  | inl k ↦ rw (k, h) refl
  | inr k ↦ rw k (or_right (p x) (list_any p (insert_edge f xs)) (any_insert p f xs h))
]

-- the rest with the edge put in and one taken out
abbrev swapped : Edge → List Edge → List Edge
swapped f rest = insert_edge f (take (length rest - 1) (without_edge f.id2 rest))

length-swapped : (f : Edge) (rest : List Edge) → AreDistinct rest → 0 < length rest → length (swapped f rest) ≡ length rest
length-swapped f rest d some =
    let kept = length_without f.id2 rest d in
    let taken = length-take (length rest - 1) (without_edge f.id2 rest) in
    let put = length_insert f (take (length rest - 1) (without_edge f.id2 rest)) in
    omega arith

all_swapped : (P : Edge → Type 0) (f : Edge) (rest : List Edge) → P f → AllByRecursion P rest → AllByRecursion P (swapped f rest)
all_swapped P f rest here h = all_insert P f _ here (all_take P (length rest - 1) (without_edge f.id2 rest) (all_filter P (λ e. not (e.id2 == f.id2)) rest h))

in_order_swapped : (edges : List Edge) (f : Edge) (rest : List Edge) → IsInListOrder (edges ++ rest) → CanStandBehind edges f
    → IsInListOrder (edges ++ swapped f rest)
in_order_swapped edges f rest order stands =
    let R : Edge → Edge → Type 0 = λ e later. is_newer e later ≡ true in
    let S : Edge → Edge → Type 0 = λ e later. later.id2 ≢ e.id2 in
    let kept : List Edge = take (length rest - 1) (without_edge f.id2 rest) in
    let away : Without f.id2 kept = all_take (λ e. e.id2 ≢ f.id2) (length rest - 1) (without_edge f.id2 rest) (without_none f.id2 rest) in
    let sorted : IsNewestFirst kept = EachWithLater-take R (length rest - 1) (without_edge f.id2 rest)
    (EachWithLater-filter R (λ e. not (e.id2 == f.id2)) rest (EachWithLater-right R edges rest order.newest_first)) in
    let apart : AreDistinct kept = EachWithLater-take S (length rest - 1) (without_edge f.id2 rest)
    (EachWithLater-filter S (λ e. not (e.id2 == f.id2)) rest (EachWithLater-right S edges rest order.distinct)) in
    record {
      newest_first = EachWithLater-append R edges (swapped f rest) (EachWithLater-left R edges rest order.newest_first) (sorted_insert f kept away sorted)
          (all_both (λ x. R x f) (λ x. AllByRecursion (R x) rest) (λ x. AllByRecursion (R x) (swapped f rest)) (λ x. all_swapped (R x) f rest) edges
          stands.older (EachWithLater-across R edges rest order.newest_first));
      distinct = EachWithLater-append S edges (swapped f rest) (EachWithLater-left S edges rest order.distinct) (distinct_insert f kept away apart)
          (all_both (λ x. x.id2 ≢ f.id2) (λ x. AllByRecursion (S x) rest) (λ x. AllByRecursion (S x) (swapped f rest))
          (λ x ne. all_swapped (S x) f rest (λ e. ne (sym e))) edges
          stands.new_id (EachWithLater-across S edges rest order.distinct));
    }

-- where an answer is what passes a test, and one more edge that passes has room
record Filters (bound : ℕ) (edges : List Edge) (total : ℕ) (q : Query) (p : Edge → Bool) : Type 0 where
  pub blind : (e : Edge) → p (restamped e) ≡ p e
  pub differ : (xs ys zs : List Edge) (g : Edge) → filter p xs ≡ filter p edges ++ g ∷ zs → filter p ys ≡ filter p edges ++ restamped g ∷ zs
      → list_answer bound xs total q ≢ list_answer bound ys total q

open_by_filter : (bound : ℕ) (edges rest : List Edge) (total : ℕ) (q : Query) (p : Edge → Bool) (f : Edge) → Filters bound edges total q p
    → total ≡ length edges + length rest → 0 < length rest
    → IsInListOrder (edges ++ rest) → CanStandBehind edges f → p f ≡ true → IsOpen bound edges total q
open_by_filter bound edges rest total q p f filters count some order stands passes =
    let w = split_first p (swapped f rest) (any_insert p f _ passes) in
    let behind : IsInListOrder (edges ++ (w.0 ++ w.1 ∷ w.2)) = subst (λ ys. IsInListOrder (edges ++ ys)) w.3 (in_order_swapped edges f rest order stands) in
    let as_long = length-swapped f rest (EachWithLater-right (λ e later. later.id2 ≢ e.id2) edges rest order.distinct) some in
    let same = ap length w.3 in
    opened bound edges w.0 w.1 w.2 total q (omega arith) behind
    (filters.differ (edges ++ (w.0 ++ w.1 ∷ w.2)) (edges ++ (w.0 ++ restamped w.1 ∷ w.2)) (filter p w.2) w.1
    (filtered p edges w.0 w.1 w.2 w.4 w.5) (filtered p edges w.0 (restamped w.1) w.2 w.4 (filters.blind w.1 ∙ w.5)))

-- a time range
time_filters : (bound : ℕ) (edges : List Edge) (total id1 : ℕ) (atype : AType) (high low limit : ℕ)
    → count_within (Some low) (Some high) edges < min limit bound
    → Filters bound edges total (AssocTimeRange id1 atype high low limit) (λ e. at_least (Some low) e.time && at_most (Some high) e.time)
time_filters bound edges total id1 atype high low limit room = record {
  blind = λ e. refl;
  differ = λ xs ys zs g one other h. (
      let lists : take (min limit bound) (within (Some low) (Some high) xs) ≡ take (min limit bound) (within (Some low) (Some high) ys) = cc in
      take_differs (min limit bound) (within (Some low) (Some high) edges) g (restamped g) zs room (restamped-differs g)
      (ap (take (min limit bound)) (sym one) ∙ lists ∙ ap (take (min limit bound)) other));
}

-- edges to ids
both_filters : (asked timely : Edge → Bool) (xs : List Edge) → filter timely (filter asked xs) ≡ filter (λ e. asked e && timely e) xs
both_filters asked timely [] = refl
both_filters asked timely (x ∷ xs) = elim (cases_Bool (asked x)) [
  | inl k ↦ rw (k, both_filters asked timely xs) refl
  | inr k ↦ rw k (both_filters asked timely xs)
]

get_filters : (bound : ℕ) (edges : List Edge) (total id1 : ℕ) (atype : AType) (ids : List ℕ) (high low : Option ℕ)
    → Filters bound edges total (AssocGet id1 atype ids high low) (λ e. list_any (λ id. id == e.id2) ids && (at_least low e.time && at_most high e.time))
get_filters bound edges total id1 atype ids high low =
    let asked : Edge → Bool = λ e. list_any (λ id. id == e.id2) ids in
    let timely : Edge → Bool = λ e. at_least low e.time && at_most high e.time in
    record {
      blind = λ e. refl;
      differ = λ xs ys zs g one other h. (
          let lists : within low high (to_ids ids xs) ≡ within low high (to_ids ids ys) = cc in
          append_differs (filter (λ e. asked e && timely e) edges) g (restamped g) zs (restamped-differs g)
          (sym one ∙ sym (both_filters asked timely xs) ∙ lists ∙ both_filters asked timely ys ∙ other));
    }

-- a range
parted : (xs : List Edge) → 0 < length xs → (g : Edge) × (ys : List Edge) × (xs ≡ g ∷ ys)
parted [] some = absurd (omega arith)
parted (x ∷ xs) some = (x, xs, refl)

dropped : (pos : ℕ) (edges qs : List Edge) (g : Edge) (ys : List Edge) → pos ≤ length edges + length qs
    → drop pos (edges ++ (qs ++ g ∷ ys)) ≡ drop pos (edges ++ qs) ++ g ∷ ys
dropped pos edges qs g ys within_ =
    let long = length-append edges qs in
    ap (drop pos) (sym (append_assoc edges qs (g ∷ ys))) ∙ drop-append-le pos (edges ++ qs) (g ∷ ys) (omega arith)

range_differs : (bound : ℕ) (edges qs : List Edge) (g : Edge) (ys : List Edge) (total id1 : ℕ) (atype : AType) (pos limit : ℕ) → pos ≤ length edges + length qs
    → length edges + length qs < pos + min limit bound
    → list_answer bound (edges ++ (qs ++ g ∷ ys)) total (AssocRange id1 atype pos limit) ≢ list_answer bound (edges ++ (qs ++ restamped g ∷ ys)) total
    (AssocRange id1 atype pos limit)
range_differs bound edges qs g ys total id1 atype pos limit enough reaches h =
    let whole = length-append edges qs in
    let skipped = length-drop pos (edges ++ qs) in
    let lists : range pos (min limit bound) (edges ++ (qs ++ g ∷ ys)) ≡ range pos (min limit bound) (edges ++ (qs ++ restamped g ∷ ys)) = cc in
    take_differs (min limit bound) (drop pos (edges ++ qs)) g (restamped g) ys (omega arith) (restamped-differs g)
    (ap (take (min limit bound)) (sym (dropped pos edges qs g ys enough)) ∙ lists ∙ ap (take (min limit bound)) (dropped pos edges qs (restamped g) ys enough))

-- the element at a place, between those before and those behind
place : (j : ℕ) (xs : List Edge) → j < length xs → (g : Edge) × (ys : List Edge) × (xs ≡ take j xs ++ g ∷ ys)
place j xs lt =
    let behind = length-drop j xs in
    let w = parted (drop j xs) (omega arith) in
    (w.0, w.1, sym (take-append-drop j xs) ∙ ap (λ ys. take j xs ++ ys) w.2)

open_range_at : (bound : ℕ) (edges rest qs : List Edge) (g : Edge) (ys : List Edge) (total id1 : ℕ) (atype : AType) (pos limit : ℕ) → rest ≡ qs ++ g ∷ ys
    → total ≡ length edges + length rest
    → IsInListOrder (edges ++ rest) → pos ≤ length edges + length qs → length edges + length qs < pos + min limit bound
    → IsOpen bound edges total (AssocRange id1 atype pos limit)
open_range_at bound edges rest qs g ys total id1 atype pos limit joined count order enough reaches =
    opened bound edges qs g ys total (AssocRange id1 atype pos limit) (count ∙ ap (λ xs. length edges + length xs) joined)
    (subst (λ xs. IsInListOrder (edges ++ xs)) joined order)
    (range_differs bound edges qs g ys total id1 atype pos limit enough reaches)

open_range : (bound : ℕ) (edges rest : List Edge) (total id1 : ℕ) (atype : AType) (pos limit : ℕ) → total ≡ length edges + length rest → 0 < length rest
    → IsInListOrder (edges ++ rest)
    → 0 < min limit bound → length edges < pos + min limit bound → pos < total → IsOpen bound edges total (AssocRange id1 atype pos limit)
open_range bound edges rest total id1 atype pos limit count some order used reaches before =
    let first = length-take (pos - length edges) rest in
    let w = place (pos - length edges) rest (omega arith) in
    open_range_at bound edges rest (take (pos - length edges) rest) w.0 w.1 total id1 atype pos limit w.2 count order (omega arith) (omega arith)

-- what is left behind the first edges
not_all : (m n : ℕ) → eqb m (m + n) ≡ false → 0 < n
not_all m n h = grind (arith, nat_tests)

leb-not : (m n : ℕ) → leb m n ≡ false → n < m
leb-not m n h = grind (arith, nat_tests)

ltb-is : (m n : ℕ) → ltb m n ≡ true → m < n
ltb-is m n h = grind (arith, nat_tests)

open_behind : (bound : ℕ) (edges rest : List Edge) (q : Query) (e : Edge) → decides bound edges (length edges + length rest) q ≡ false
    → IsInListOrder (edges ++ rest) → CanStandBehind edges e
    → asks_for bound q e ≡ true → IsOpen bound edges (length edges + length rest) q
open_behind bound edges rest (ObjGet id) e h order stands asks = absurd (cc)
open_behind bound edges rest (AssocCount id1 atype) e h order stands asks = absurd (cc)
open_behind bound edges rest (AssocRange id1 atype pos limit) e h order stands asks =
    let total : ℕ = length edges + length rest in
    let last = or_parts (eqb (length edges) total || leb (pos + min limit bound) (length edges)) (leb total pos) h in
    let first = or_parts (eqb (length edges) total) (leb (pos + min limit bound) (length edges)) last.0 in
    open_range bound edges rest total id1 atype pos limit refl (not_all (length edges) (length rest) first.0) order (ltb-is 0 (min limit bound) asks)
    (leb-not (pos + min limit bound) (length edges) first.1) (leb-not total pos last.1)
open_behind bound edges rest (AssocTimeRange id1 atype high low limit) e h order stands asks =
    let total : ℕ = length edges + length rest in
    let third = or_parts (eqb (length edges) total || ltb high low || leb (min limit bound) (count_within (Some low) (Some high) edges))
    (ends_below low edges) h in
    let second = or_parts (eqb (length edges) total || ltb high low) (leb (min limit bound) (count_within (Some low) (Some high) edges)) third.0 in
    let first = or_parts (eqb (length edges) total) (ltb high low) second.0 in
    open_by_filter bound edges rest total (AssocTimeRange id1 atype high low limit) (λ x. at_least (Some low) x.time && at_most (Some high) x.time) e
    (time_filters bound edges total id1 atype high low limit (leb-not (min limit bound) (count_within (Some low) (Some high) edges) second.1))
    refl (not_all (length edges) (length rest) first.0) order stands asks
open_behind bound edges rest (AssocGet id1 atype ids high low) e h order stands asks =
    let total : ℕ = length edges + length rest in
    let all_here : Bool = list_all (λ id. list_any (λ x. id == x.id2) edges) ids in
    let third = or_parts (eqb (length edges) total || all_here || is_empty_span low high) (ends_below_given low edges) h in
    let second = or_parts (eqb (length edges) total || all_here) (is_empty_span low high) third.0 in
    let first = or_parts (eqb (length edges) total) all_here second.0 in
    open_by_filter bound edges rest total (AssocGet id1 atype ids high low)
    (λ x. list_any (λ id. id == x.id2) ids && (at_least low x.time && at_most high x.time)) e
    (get_filters bound edges total id1 atype ids high low) refl (not_all (length edges) (length rest) first.0) order stands asks

undecided : (bound : ℕ) (edges : List Edge) (total : ℕ) (q : Query) → decides bound edges total q ≡ false → (whole : List Edge) → IsPrefixOf edges total whole
    → IsInListOrder whole
    → (e : Edge) → CanStandBehind edges e → asks_for bound q e ≡ true → IsOpen bound edges total q
undecided bound edges total q h whole p order e stands asks =
    let rest : List Edge = drop (length edges) whole in
    let joined : edges ++ rest ≡ whole = ap (λ x. x ++ rest) p.begins ∙ take-append-drop (length edges) whole in
    let count : total ≡ length edges + length rest = p.length_is ∙ ap length (sym joined) ∙ length-append edges rest in
    subst (λ n. IsOpen bound edges n q) (sym count) (open_behind bound edges rest q e (subst (λ n. decides bound edges n q ≡ false) count h)
    (subst IsInListOrder (sym joined) order) stands asks)

pub undecided_is_open : (bound : ℕ) (edges : List Edge) (total : ℕ) (q : Query) → UndecidedIsOpen bound edges total q
undecided_is_open bound edges total q = record { is_open = undecided bound edges total q }
