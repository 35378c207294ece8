-- A touch takes a prefix that is exact to one that is exact at the next version.
use Rattle.std.proofs.Common.{◌≡◌, ℕ, ◌+◌, ◌-◌, ◌^◌, ◌<◌, ◌≤◌, Bool, not, List, ◌++◌, length, max, take, drop, Option, Some, None, refl, sym, ◌∙◌}
use Rattle.std.proofs.Common.{ap, subst, arith, inl, inr, length-append, Result, Ok, Err, OnOk}
use Rattle.std.specs.Prelude.{◌==◌, ◌||◌, nat_eq, nat_lt, filter, option_to_list, IfSome}
use Rattle.std.proofs.lemmas.Bool.{cases_Bool, lt-ltb, ltb-false}
use Rattle.std.proofs.lemmas.List.{length-take, take-append-drop, take_all}
use Rattle.std.proofs.lemmas.List.Elements.{All-contains, filter-append}
use Rattle.std.proofs.lemmas.List.Filters.{length-filter_both}
use Rattle.tao_base.specs.declared.edge.Edge.{Edge}
use Rattle.tao_base.specs.declared.entry.Change.{Change}
use Rattle.tao_base.specs.declared.entry.Change.TheVariants.{PutObject, DropObject, SetEdge, CutEdge}
use Rattle.tao_base.specs.declared.entry.Entry.{Entry}
use Rattle.tao_base.specs.declared.entry.Touch.{Touch}
use Rattle.tao_base.specs.declared.id.AType.{AType}
use Rattle.tao_base.specs.declared.id.Id.{Id}
use Rattle.tao_base.specs.declared.id.Key.TheVariants.{List as Assocs}
use Rattle.graph_model.proofs.Applied.{length_insert, prefix_take}
use Rattle.graph_model.proofs.Exact.{exact_follows, says_was}
use Rattle.graph_model.proofs.Lengths.{item_within}
use Rattle.graph_model.specs.Edges.{edge_list, edge_record, edges_to, live_time, without_edge}
use Rattle.graph_model.specs.Log.{IsTouchOf, version}
use Rattle.graph_model.specs.Prefixes.{IsExactList, IsPrefixOf, SaysWas, edges_after, is_before_last, put_among, total_after, total_without}
use Rattle.graph_model.specs.Soundness.{IsSound, TouchFollows, update_at, was_of}
use Rattle.list_prefix.proofs.Changed.{length_rest}
use Rattle.list_prefix.specs.Changes.{StaysExact, fallen, prefix_after, risen, shortened}
use Rattle.list_prefix.specs.ListPrefix.{IsExactPrefix, ListPrefix, list_prefix}

-- of the first edges no more are left than of all
fewer_left : (id2 n : ℕ) (whole : List Edge) → length (without_edge id2 (take n whole)) ≤ length (without_edge id2 whole)
fewer_left id2 n whole =
    let test : Edge → Bool = λ e. not (e.id2 == id2) in
    let parts : without_edge id2 whole ≡ without_edge id2 (take n whole) ++ without_edge id2 (drop n whole) =
    ap (filter test) (sym (take-append-drop n whole)) ∙ filter-append test (take n whole) (drop n whole) in
    let sum = ap length parts ∙ length-append (without_edge id2 (take n whole)) (without_edge id2 (drop n whole)) in
    omega arith

both_parts : (id2 : ℕ) (xs : List Edge) → length (edges_to id2 xs) + length (without_edge id2 xs) ≡ length xs
both_parts id2 xs = length-filter_both (λ (e : Edge). e.id2 == id2) (λ e. not (e.id2 == id2)) (λ e. refl) xs

-- where `was` is true of the list, the fall that it asks for is made
fall_is : (id2 : ℕ) (was : Option ℕ) (edges whole : List Edge) (total : ℕ) → IsPrefixOf edges total whole
    → length (edges_to id2 whole) ≡ length (option_to_list was)
    → fallen was (length (without_edge id2 edges)) total ≡ total_without was total
fall_is id2 None edges whole total begins says = refl
fall_is id2 (Some time) edges whole total begins says =
    let sum = both_parts id2 whole in
    let fewer = fewer_left id2 (length edges) whole in
    let same = ap (λ xs. length (without_edge id2 xs)) begins.begins in
    let all = begins.length_is in
    let room : length (without_edge id2 edges) < total = omega arith in
    rw (lt-ltb (length (without_edge id2 edges)) total room) refl

rise_is : (was : Option ℕ) (total : ℕ) → total < 2 ^ 64 - 1 → risen (total_without was total) ≡ total_without was total + 1
rise_is None total small = omega arith
rise_is (Some time) total small = omega arith

-- what is shortened is a front
shortened_front : (bound : ℕ) (xs : List Edge) → (n : ℕ) × (take n xs ≡ shortened bound xs)
shortened_front bound xs = elim (cases_Bool (nat_lt bound (length xs))) [
  | inl k ↦ (length xs - 1, rw k refl)
  | inr k ↦ (length xs, rw k (take_all (length xs) xs (omega arith)))
]

length_shortened : (bound : ℕ) (xs : List Edge) → length (shortened bound xs) ≤ max (length xs - 1) bound
length_shortened bound xs = elim (cases_Bool (nat_lt bound (length xs))) [
  | inl k ↦ rw k (let cut = length-take (length xs - 1) xs in omega arith)
  | inr k ↦ rw k (let fits = ltb-false bound (length xs) k in omega arith)
]

length_among : (e : Edge) (xs : List Edge) (total : ℕ) → length (put_among e xs total) ≤ length xs + 1
length_among e xs total = let more = length_insert e xs in elim (cases_Bool (nat_eq (length xs) total || is_before_last e xs)) [
  | inl k ↦ rw k (omega arith)
  | inr k ↦ rw k (omega arith)
]

prefix_same : (xs ys : List Edge) (m n : ℕ) → xs ≡ ys → m ≡ n → list_prefix xs m ≡ list_prefix ys n
prefix_same xs ys m n e f = rw (e, f) refl

-- a prefix after a change is a front of what the plain rule gives
record IsFrontAfter (change : Change) (p new : ListPrefix) : Type 0 where
  pub count : ℕ
  pub is : list_prefix (take count (edges_after change p.edges p.total)) (total_after change p.total) ≡ new

after_is : (change : Change) (p : ListPrefix) (bound : ℕ) (whole : List Edge) → IsPrefixOf p.edges p.total whole → SaysWas change whole → p.total < 2 ^ 64 - 1
    → IsFrontAfter change p (prefix_after change p bound)
after_is (SetEdge e was) p bound whole begins says small =
    let rest : List Edge = without_edge e.id2 p.edges in
    let fall = fall_is e.id2 was p.edges whole p.total begins says in
    let front = shortened_front bound (put_among e rest (fallen was (length rest) p.total)) in
    record {
      count = front.0;
      is = prefix_same _ _ _ _ (ap (λ n. take front.0 (put_among e rest n)) (sym fall) ∙ front.1) (sym (ap risen fall ∙ rise_is was p.total small));
    }
after_is (CutEdge id2 stamp was) p bound whole begins says small =
    let front = shortened_front bound (without_edge id2 p.edges) in
    record { count = front.0; is = prefix_same _ _ _ _ front.1 (sym (fall_is id2 was p.edges whole p.total begins says)) }
after_is (PutObject object) p bound whole begins says small =
    record { count = length p.edges; is = prefix_same _ _ _ _ (take_all (length p.edges) p.edges (omega arith)) refl }
after_is DropObject p bound whole begins says small =
    record { count = length p.edges; is = prefix_same _ _ _ _ (take_all (length p.edges) p.edges (omega arith)) refl }

-- no more edges than the bound, or than there were
pub after_bounded : (change : Change) (p : ListPrefix) (bound : ℕ) → length (prefix_after change p bound).edges ≤ max (length p.edges) bound
after_bounded (SetEdge e was) p bound =
    let rest : List Edge = without_edge e.id2 p.edges in
    let fewer = length_rest e.id2 p.edges in
    let more = length_among e rest (fallen was (length rest) p.total) in
    let short = length_shortened bound (put_among e rest (fallen was (length rest) p.total)) in
    omega arith
after_bounded (CutEdge id2 stamp was) p bound =
    let fewer = length_rest id2 p.edges in
    let short = length_shortened bound (without_edge id2 p.edges) in
    omega arith
after_bounded (PutObject object) p bound = omega arith
after_bounded DropObject p bound = omega arith

-- the list just before a touch of a sound log
record StoodBefore (log : List Entry) (id1 : Id) (atype : AType) (v : ℕ) (change : Change) (whole : List Edge) : Type 0 where
  pub place : ℕ
  pub at : version (take place log) (Assocs id1 atype) ≡ v
  pub is : edge_list (take place log) id1 atype ≡ whole
  pub says : SaysWas change whole

stood : (log : List Entry) (t : Touch) (id1 : Id) (atype : AType) (v : ℕ) → IsSound log → (touch : IsTouchOf log t) → t.key ≡ Assocs id1 atype
    → t.version ≡ v + 1
    → StoodBefore log id1 atype v t.change (edge_list (take touch.place log) id1 atype)
stood log t id1 atype v sound touch key next =
    let n : ℕ = touch.place in
    let follow = sound n touch.entry touch.stands in
    let fits = All-contains (TouchFollows (take n log) touch.entry.origin) touch.entry.touches t follow.touches touch.touches in
    record {
      place = n;
      at = (let k = fits.version_is in let same = ap (version (take n log)) key in omega arith);
      is = refl;
      says = says_was (take n log) id1 atype t.change (subst
          (λ k. IfSome (update_at k t.change) (λ u. was_of t.change ≡ live_time (edge_record (take n log) u.0 u.1 u.2))) key fits.was_is);
    }

-- a front of an exact prefix is exact
pub front_is_exact : (log : List Entry) (id1 : Id) (atype : AType) (v n : ℕ) (edges : List Edge) (total : ℕ) → IsExactList log id1 atype v edges total
    → IsExactPrefix log id1 atype v (list_prefix (take n edges) total)
front_is_exact log id1 atype v n edges total exact =
    record { reached = exact.reached; gives = λ m h. prefix_take n edges (edge_list (take m log) id1 atype) total (exact.gives m h) }

-- the plain rule keeps all edges exact
plain_is_exact : (log : List Entry) (t : Touch) (id1 : Id) (atype : AType) (v : ℕ) (p : ListPrefix) → IsSound log → IsTouchOf log t → t.key ≡ Assocs id1 atype
    → t.version ≡ v + 1 → IsExactPrefix log id1 atype v p
    → IsExactPrefix log id1 atype (v + 1) (list_prefix (edges_after t.change p.edges p.total) (total_after t.change p.total))
plain_is_exact log t id1 atype v p sound touch key next exact =
    let after : List Edge = edges_after t.change p.edges p.total in
    let room : ℕ = length p.edges + length after in
    let next_is = (exact_follows log t).list_follows sound touch id1 atype room v p.edges p.total key next exact in
    let all : take room after ≡ after = take_all room after (omega arith) in
    subst (λ es. IsExactList log id1 atype (v + 1) es (total_after t.change p.total)) all next_is

follows : (change : Change) (old new : ListPrefix) (bound : ℕ) → new ≡ prefix_after change old bound
    → (log : List Entry) (t : Touch) (id1 : Id) (atype : AType) (v : ℕ)
    → IsSound log → IsTouchOf log t → t.key ≡ Assocs id1 atype → t.change ≡ change → t.version ≡ v + 1 → t.version < 2 ^ 64
    → IsExactPrefix log id1 atype v old → IsExactPrefix log id1 atype (v + 1) new
follows change old new bound is log t id1 atype v sound touch key same next small exact =
    let before = stood log t id1 atype v sound touch key next in
    let begins : IsPrefixOf old.edges old.total (edge_list (take before.place log) id1 atype) = exact.gives before.place before.at in
    let begun : IsPrefixOf old.edges old.total (edge_list (take touch.place log) id1 atype) = subst (IsPrefixOf old.edges old.total) before.is begins in
    let short = item_within log id1 atype sound v old.edges old.total exact in
    let front = after_is t.change old bound (edge_list (take touch.place log) id1 atype) begun before.says (omega arith) in
    let plain = plain_is_exact log t id1 atype v old sound touch key next exact in
    let cut = front_is_exact log id1 atype (v + 1) front.count (edges_after t.change old.edges old.total) (total_after t.change old.total) plain in
    subst (λ p. IsExactPrefix log id1 atype (v + 1) p) (front.is ∙ ap (λ c. prefix_after c old bound) same ∙ sym is) cut

pub stays_exact : (change : Change) (old new : ListPrefix) (bound : ℕ) → new ≡ prefix_after change old bound → StaysExact change old new bound
stays_exact change old new bound is = record {
  exact = follows change old new bound is;
  bounded = subst (λ p. length p.edges ≤ max (length old.edges) bound) (sym is) (after_bounded change old bound);
}

pub exact_on_ok : {X E : Type 0} (change : Change) (old new : ListPrefix) (bound : ℕ) (r : Result X E) → OnOk r (new ≡ prefix_after change old bound)
    → OnOk r (StaysExact change old new bound)
exact_on_ok change old new bound (Ok x) is = stays_exact change old new bound is
exact_on_ok change old new bound (Err e) is = tt
