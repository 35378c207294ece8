-- What taking an edge out and putting one in make of the first edges of a list.
use Rattle.std.proofs.Common.{◌≡◌, ℕ, zero, suc, ◌+◌, ◌-◌, ◌^◌, ◌<◌, ◌≤◌, Bool, true, false, ◌||◌, not, List, [], ◌∷◌, length, take, get_or, min}
use Rattle.std.proofs.Common.{Option, Some, None, refl, ap, arith, inl, inr, length-take}
use Rattle.std.specs.Prelude.{◌==◌, nat_eq, nat_lt}
use Rattle.std.specs.List.{insert, AllByRecursion}
use Rattle.std.specs.List.Sorted.{IsPartitionedBy, IsPartitionPoint}
use Rattle.std.proofs.lemmas.Bool.{cases_Bool}
use Rattle.std.proofs.lemmas.Bool.Decides.{nat_tests}
use Rattle.std.proofs.lemmas.List.Sums.{length-filter, count_by-le-length}
use Rattle.tao_base.specs.declared.edge.Edge.{Edge}
use Rattle.tao_base.specs.declared.entry.Change.{Change}
use Rattle.tao_base.specs.declared.entry.Change.TheVariants.{PutObject, DropObject, SetEdge, CutEdge}
use Rattle.graph_model.proofs.Applied.{length_insert}
use Rattle.graph_model.proofs.Later.{EachWithLater-filter, EachWithLater-take}
use Rattle.graph_model.proofs.Lists.{distinct_insert, newer_trans, sorted_insert, without_none}
use Rattle.graph_model.specs.Edges.{IsInListOrder, IsNewestFirst, Without, insert_edge, is_newer, without_edge}
use Rattle.graph_model.specs.Prefixes.{is_before_last, put_among}
use Rattle.list_prefix.specs.Changes.{fallen, prefix_after, rest_of, shortened}
use Rattle.list_prefix.specs.ListPrefix.{CanBegin, ListPrefix}
use Rattle.tao_base.proofs.Tests.{not_true}

not_false : (b : Bool) → not b ≡ false → b ≡ true
not_false true h = refl
not_false false h = cc

-- the place of an edge: before it stand those that it is not newer than
pub insert_at : (e : Edge) (xs : List Edge) (i : ℕ) → IsPartitionPoint (λ y. not (is_newer e y) ≡ true) (λ y. not (is_newer e y) ≡ false) xs i → i ≤ length xs
    → insert xs i e ≡ insert_edge e xs
insert_at e [] zero point le = refl
insert_at e [] (suc i) point le = absurd (omega arith)
insert_at e (x ∷ xs) zero point le = rw (not_false (is_newer e x) (point.1 zero x (omega arith) (omega arith))) refl
insert_at e (x ∷ xs) (suc i) point le =
    rw (not_true (is_newer e x) (point.0 zero x (omega arith) (omega arith)))
    (ap (λ l. x ∷ l) (insert_at e xs i ((λ k d a b. point.0 (suc k) d (omega arith) (omega arith)), (λ k d a b. point.1 (suc k) d (omega arith) (omega arith)))
    (omega arith)))

newer_than : (x : Edge) (xs : List Edge) → AllByRecursion (λ y. is_newer x y ≡ true) xs → (k : ℕ) (d : Edge) → k < length xs → is_newer x (get_or xs k d) ≡ true
newer_than x [] before k d h = absurd (omega arith)
newer_than x (y ∷ ys) before zero d h = before.0
newer_than x (y ∷ ys) before (suc k) d h = newer_than x ys before.1 k d (omega arith)

before_both : (e x y : Edge) → is_newer x y ≡ true → not (is_newer e y) ≡ true → not (is_newer e x) ≡ true
before_both e x y h on = elim (cases_Bool (is_newer e x)) [
  | inl k ↦ (let j = newer_trans e x y k h in absurd (cc (not_true (is_newer e y) on)))
  | inr k ↦ rw k refl
]

pub place_parts : (e : Edge) (xs : List Edge) → IsNewestFirst xs → IsPartitionedBy (λ y. not (is_newer e y)) xs
place_parts e [] sorted i j d l h on = absurd (omega arith)
place_parts e (x ∷ xs) sorted zero zero d l h on = on
place_parts e (x ∷ xs) sorted zero (suc j) d l h on = before_both e x (get_or xs j d) (newer_than x xs sorted.0 j d (omega arith)) on
place_parts e (x ∷ xs) sorted (suc i) zero d l h on = absurd (omega arith)
place_parts e (x ∷ xs) sorted (suc i) (suc j) d l h on = place_parts e xs sorted.1 i j d (omega arith) (omega arith) on

pub in_order_rest : (id2 : ℕ) (xs : List Edge) → IsInListOrder xs → IsInListOrder (without_edge id2 xs)
in_order_rest id2 xs order = record {
  newest_first = EachWithLater-filter (λ e later. is_newer e later ≡ true) (λ e. not (e.id2 == id2)) xs order.newest_first;
  distinct = EachWithLater-filter (λ e later. later.id2 ≡ e.id2 → ⊥) (λ e. not (e.id2 == id2)) xs order.distinct;
}

pub length_rest : (id2 : ℕ) (xs : List Edge) → length (without_edge id2 xs) ≤ length xs
length_rest id2 xs = let p : Edge → Bool = λ e. not (e.id2 == id2) in omega (arith, length-filter p xs, count_by-le-length p xs)

in_order_insert : (e : Edge) (xs : List Edge) → Without e.id2 xs → IsInListOrder xs → IsInListOrder (insert_edge e xs)
in_order_insert e xs new order = record { newest_first = sorted_insert e xs new order.newest_first; distinct = distinct_insert e xs new order.distinct }

pub in_order_take : (n : ℕ) (xs : List Edge) → IsInListOrder xs → IsInListOrder (take n xs)
in_order_take n xs order = record {
  newest_first = EachWithLater-take (λ e later. is_newer e later ≡ true) n xs order.newest_first;
  distinct = EachWithLater-take (λ e later. later.id2 ≡ e.id2 → ⊥) n xs order.distinct;
}

begins_shortened : (bound total : ℕ) (xs : List Edge) → CanBegin xs total → CanBegin (shortened bound xs) total
begins_shortened bound total xs begins = elim (cases_Bool (nat_lt bound (length xs))) [
  | inl k ↦ rw k (record {
    in_order = in_order_take (length xs - 1) xs begins.in_order;
    within = (let most = length-take (length xs - 1) xs in let all = begins.within in omega arith);
  })
  | inr k ↦ rw k begins
]

fallen_most : (was : Option ℕ) (count total : ℕ) → count ≤ total → count ≤ fallen was count total
fallen_most None count total h = h
fallen_most (Some time) count total h = grind (arith, nat_tests)

begins_rest : (id2 : ℕ) (was : Option ℕ) (p : ListPrefix) → CanBegin p.edges p.total → CanBegin (rest_of id2 was p).edges (rest_of id2 was p).total
begins_rest id2 was p begins = record {
  in_order = in_order_rest id2 p.edges begins.in_order;
  within = (let fewer = length_rest id2 p.edges in let all = begins.within in fallen_most was (length (without_edge id2 p.edges)) p.total (omega arith));
}

begins_among : (e : Edge) (xs : List Edge) (total : ℕ) → CanBegin xs total → Without e.id2 xs → length xs < 2 ^ 63
    → CanBegin (put_among e xs total) (min (total + 1) (2 ^ 64 - 1))
begins_among e xs total begins new small = let all = begins.within in elim (cases_Bool (nat_eq (length xs) total || is_before_last e xs)) [
  | inl k ↦ rw k (record { in_order = in_order_insert e xs new begins.in_order; within = (let more = length_insert e xs in omega arith) })
  | inr k ↦ rw k (record { in_order = begins.in_order; within = omega arith })
]

-- the edges that are left of few are few
few_left : (id2 : ℕ) (xs : List Edge) → length xs < 2 ^ 63 → length (without_edge id2 xs) < 2 ^ 63
few_left id2 xs small = let fewer = length_rest id2 xs in omega arith

-- a change leaves what can begin a list
pub after_begins : (change : Change) (p : ListPrefix) (bound : ℕ) → CanBegin p.edges p.total → length p.edges < 2 ^ 63
    → CanBegin (prefix_after change p bound).edges (prefix_after change p bound).total
after_begins (SetEdge e was) p bound begins small =
    begins_shortened bound _ _ (begins_among e (without_edge e.id2 p.edges) (rest_of e.id2 was p).total (begins_rest e.id2 was p begins)
    (without_none e.id2 p.edges) (few_left e.id2 p.edges small))
after_begins (CutEdge id2 stamp was) p bound begins small = begins_shortened bound _ _ (begins_rest id2 was p begins)
after_begins (PutObject object) p bound begins small = begins
after_begins DropObject p bound begins small = begins

pub begins_same : (p q : ListPrefix) → p ≡ q → CanBegin q.edges q.total → CanBegin p.edges p.total
begins_same p q is begins = rw is begins

pub in_order_same : (xs ys : List Edge) → xs ≡ ys → IsInListOrder ys → IsInListOrder xs
in_order_same xs ys is order = rw is order
