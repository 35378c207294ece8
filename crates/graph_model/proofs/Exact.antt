-- Exact items stay exact.
use Rattle.std.proofs.Common.{◌≡◌, ℕ, ◌≤◌, ◌+◌, List, [], ◌∷◌, ◌++◌, length, take, drop, refl, sym, ap, subst, ◌∙◌, inl, inr, arith, zero, suc}
use Rattle.std.proofs.lemmas.Bool.{cases_lt}
use Rattle.std.proofs.lemmas.List.{take-append-drop, take-append-le, take-take, take_all}
use Rattle.std.proofs.lemmas.List.Elements.{All-contains}
use Rattle.std.proofs.Math.Seq.{take-append_seam}
use Rattle.std.specs.Prelude.{IfSome, Option, Some, None, option_to_list}
use Rattle.tao_base.specs.declared.edge.Edge.{Edge}
use Rattle.tao_base.specs.declared.edge.EdgeState.{EdgeState}
use Rattle.tao_base.specs.declared.edge.EdgeState.TheVariants.{Live, Cut}
use Rattle.tao_base.specs.declared.edge.Object.{Object}
use Rattle.tao_base.specs.declared.entry.Change.{Change}
use Rattle.tao_base.specs.declared.entry.Change.TheVariants.{PutObject, DropObject, SetEdge, CutEdge}
use Rattle.tao_base.specs.declared.entry.Entry.{Entry}
use Rattle.tao_base.specs.declared.entry.Touch.{Touch}
use Rattle.tao_base.specs.declared.id.AType.{AType}
use Rattle.tao_base.specs.declared.id.Id.{Id}
use Rattle.tao_base.specs.declared.id.Key.{Key}
use Rattle.tao_base.specs.declared.id.Key.TheVariants.{Obj, List as Assocs}
use Rattle.graph_model.proofs.Applied.{prefix_follows}
use Rattle.graph_model.proofs.EntryLemmas.{applies_touch}
use Rattle.graph_model.proofs.Lists.{edge_list_law, in_order_list}
use Rattle.graph_model.proofs.Rising.{take_with}
use Rattle.graph_model.proofs.Versions.{same_version, version-append}
use Rattle.graph_model.specs.Edges.{edge_list, edge_record, list_after, live_edge, live_edges, live_time, newest_first}
use Rattle.graph_model.specs.EntryLaws.{AppliesTouch}
use Rattle.graph_model.specs.ItemLaws.{BeginningIsExact, ExactFollows, ExactStays}
use Rattle.graph_model.specs.Log.{IsTouchOf, changes_of, object, object_after, object_in, version}
use Rattle.graph_model.specs.Prefixes.{IsExact, IsExactList, IsExactObject, IsPrefixOf, SaysWas, edges_after, total_after}
use Rattle.graph_model.specs.Soundness.{IsSound, TouchFollows, update_at, was_of}

-- a beginning's version is no greater than the log's
pub version_take : (n : ℕ) (log : List Entry) (k : Key) → version (take n log) k ≤ version log k
version_take n log k =
    let split = version-append (take n log) (drop n log) k in
    let whole = ap (λ l. version l k) (take-append-drop n log) in
    omega arith

-- what is given depends on the changes of the key alone
abbrev pub DependsOn : Key → (List Entry → Type 0) → Type 0
DependsOn key Gives = (p q : List Entry) → changes_of p key ≡ changes_of q key → Gives p → Gives q

-- what one beginning of that version gives is exact
exact_from : (log : List Entry) (key : Key) (Gives : List Entry → Type 0) (n v : ℕ) → DependsOn key Gives → version (take n log) key ≡ v → Gives (take n log)
    → IsExact log key v Gives
exact_from log key Gives n v depends e given = record {
  reached = (let le = version_take n log key in omega arith);
  gives = λ m h. depends (take n log) (take m log) (same_version n m log key (e ∙ sym h)) given;
}

-- a beginning of the longer log is one of the log, or has the log's version where it has no greater one
exact_stays : (log more : List Entry) (key : Key) (v : ℕ) (Gives : List Entry → Type 0) → DependsOn key Gives → IsExact log key v Gives
    → IsExact (log ++ more) key v Gives
exact_stays log more key v Gives depends exact = record {
  reached = (let longer = version-append log more key in let reached = exact.reached in omega arith);
  gives = λ m h. elim (cases_lt (length log) m) [
    | inr le ↦ (
        let cut : take m (log ++ more) ≡ take m log = take-append-le m log more le in
        subst Gives (sym cut) (exact.gives m (ap (λ l. version l key) (sym cut) ∙ h)))
    | inl lt ↦ (
        let begun : take (length log) (take m (log ++ more)) ≡ log = take-take (length log) m (log ++ more) (omega arith) ∙ take-append_seam log more in
        let least = version_take (length log) (take m (log ++ more)) key in
        let same = ap (λ l. version l key) begun in
        let reached = exact.reached in
        let whole : take (length log) log ≡ log = take_all (length log) log (omega arith) in
        let at : version log key ≡ v = omega arith in
        let given : Gives log = subst Gives whole (exact.gives (length log) (ap (λ l. version l key) whole ∙ at)) in
        let alike : changes_of log key ≡ changes_of (take m (log ++ more)) key =
        ap (λ l. changes_of l key) (sym (take-append_seam log more))
        ∙ same_version (length log) m (log ++ more) key (ap (λ l. version l key) (take-append_seam log more) ∙ at ∙ sym h) in
        depends log (take m (log ++ more)) alike given)
  ];
}

object_depends : (id : Id) (found : Option Object) → DependsOn (Obj id) (λ part. object part id ≡ found)
object_depends id found p q e h = ap object_in (sym e) ∙ h

list_depends : (id1 : Id) (atype : AType) (edges : List Edge) (total : ℕ)
    → DependsOn (Assocs id1 atype) (λ part. IsPrefixOf edges total (edge_list part id1 atype))
list_depends id1 atype edges total p q e h = subst (λ cs. IsPrefixOf edges total (newest_first (live_edges cs))) e h

pub items_stay : (log more : List Entry) → ExactStays log more
items_stay log more = record {
  object_stays = λ id v found exact. exact_stays log more (Obj id) v (λ part. object part id ≡ found) (object_depends id found) exact;
  list_stays = λ id1 atype v edges total exact.
      exact_stays log more (Assocs id1 atype) v (λ part. IsPrefixOf edges total (edge_list part id1 atype)) (list_depends id1 atype edges total) exact;
}

take_begins : (count : ℕ) (xs : List Edge) → IsPrefixOf (take count xs) (length xs) xs
take_begins count xs = record { begins = first count xs; length_is = refl }
  where
    first : (count : ℕ) (xs : List Edge) → take count xs ≡ take (length (take count xs)) xs
    first zero xs = refl
    first (suc count) [] = refl
    first (suc count) (x ∷ xs) = ap (λ ys. x ∷ ys) (first count xs)

pub beginning_is_exact : (log : List Entry) (n : ℕ) → BeginningIsExact log n
beginning_is_exact log n = record {
  object_is = λ id. exact_from log (Obj id) (λ part. object part id ≡ object (take n log) id) n (version (take n log) (Obj id))
      (object_depends id (object (take n log) id)) refl refl;
  list_is = λ id1 atype count.
      let whole : List Edge = edge_list (take n log) id1 atype in
      exact_from log (Assocs id1 atype) (λ part. IsPrefixOf (take count whole) (length whole) (edge_list part id1 atype)) n
      (version (take n log) (Assocs id1 atype))
      (list_depends id1 atype (take count whole) (length whole)) refl (take_begins count whole);
}

-- `was` says whether the edge stands in the list
length-live_edge : (id2 : Id) (found : Option EdgeState) (was : Option ℕ) → was ≡ live_time found → length (live_edge id2 found) ≡ length (option_to_list was)
length-live_edge id2 None was h = ap (λ o. length (option_to_list o)) (sym h)
length-live_edge id2 (Some (Live time payload stamp)) was h = ap (λ o. length (option_to_list o)) (sym h)
length-live_edge id2 (Some (Cut stamp)) was h = ap (λ o. length (option_to_list o)) (sym h)

pub says_was : (log : List Entry) (id1 : Id) (atype : AType) (c : Change)
    → IfSome (update_at (Assocs id1 atype) c) (λ u. was_of c ≡ live_time (edge_record log u.0 u.1 u.2)) → SaysWas c (edge_list log id1 atype)
says_was log id1 atype (SetEdge e was) h =
    ap length ((edge_list_law (changes_of log (Assocs id1 atype))).live e.id2) ∙ length-live_edge e.id2 (edge_record log id1 atype e.id2) was h
says_was log id1 atype (CutEdge id2 stamp was) h =
    ap length ((edge_list_law (changes_of log (Assocs id1 atype))).live id2) ∙ length-live_edge id2 (edge_record log id1 atype id2) was h
says_was log id1 atype (PutObject object) h = tt
says_was log id1 atype DropObject h = tt

-- the versions just before and just after a touch of a sound log
record StepsAt (log : List Entry) (t : Touch) (n : ℕ) (e : Entry) : Type 0 where
  pub follows : TouchFollows (take n log) e.origin t
  pub applies : AppliesTouch (take n log) e t
  pub with_it : take (n + 1) log ≡ take n log ++ e ∷ []

step_at : (log : List Entry) (t : Touch) → IsSound log → (touch : IsTouchOf log t) → StepsAt log t touch.place touch.entry
step_at log t sound touch =
    let follow = sound touch.place touch.entry touch.stands in
    record {
      follows = All-contains (TouchFollows (take touch.place log) touch.entry.origin) touch.entry.touches t follow.touches touch.touches;
      applies = applies_touch (take touch.place log) touch.entry t follow.once touch.touches;
      with_it = take_with log touch.place touch.entry touch.stands;
    }

before_it : (log : List Entry) (t : Touch) (n v : ℕ) (e : Entry) → StepsAt log t n e → t.version ≡ v + 1 → version (take n log) t.key ≡ v
before_it log t n v e s h = let k = s.follows.version_is in omega arith

after_it : (log : List Entry) (t : Touch) (n v : ℕ) (e : Entry) → StepsAt log t n e → t.version ≡ v + 1 → version (take (n + 1) log) t.key ≡ v + 1
after_it log t n v e s h =
    let k = s.follows.version_is in
    ap (λ l. version l t.key) s.with_it ∙ s.applies.version_is ∙ sym k ∙ h

object_next : (log : List Entry) (t : Touch) → IsSound log → IsTouchOf log t → (id : Id) (v : ℕ) (found : Option Object) → t.key ≡ Obj id → t.version ≡ v + 1
    → IsExactObject log id v found → IsExactObject log id (v + 1) (object_after t.change found)
object_next log t sound touch id v found key next exact =
    let s = step_at log t sound touch in
    let n : ℕ = touch.place in
    let old : object (take n log) id ≡ found = exact.gives n (ap (version (take n log)) (sym key) ∙ before_it log t n v touch.entry s next) in
    exact_from log (Obj id) (λ part. object part id ≡ object_after t.change found) (n + 1) (v + 1) (object_depends id (object_after t.change found))
    (ap (version (take (n + 1) log)) (sym key) ∙ after_it log t n v touch.entry s next)
    (ap (λ l. object l id) s.with_it ∙ s.applies.object_is id key ∙ ap (object_after t.change) old)

list_next : (log : List Entry) (t : Touch) → IsSound log → IsTouchOf log t → (id1 : Id) (atype : AType) (bound v : ℕ) (edges : List Edge) (total : ℕ)
    → t.key ≡ Assocs id1 atype
    → t.version ≡ v + 1 → IsExactList log id1 atype v edges total
    → IsExactList log id1 atype (v + 1) (take bound (edges_after t.change edges total)) (total_after t.change total)
list_next log t sound touch id1 atype bound v edges total key next exact =
    let s = step_at log t sound touch in
    let n : ℕ = touch.place in
    let after : List Edge = take bound (edges_after t.change edges total) in
    let old : IsPrefixOf edges total (edge_list (take n log) id1 atype) =
    exact.gives n (ap (version (take n log)) (sym key) ∙ before_it log t n v touch.entry s next) in
    let was : SaysWas t.change (edge_list (take n log) id1 atype) =
    says_was (take n log) id1 atype t.change (subst (λ k. IfSome (update_at k t.change)
    (λ u. was_of t.change ≡ live_time (edge_record (take n log) u.0 u.1 u.2))) key s.follows.was_is) in
    let sorted = (in_order_list (changes_of (take n log) (Assocs id1 atype))).newest_first in
    let new : IsPrefixOf after (total_after t.change total) (list_after t.change (edge_list (take n log) id1 atype)) =
    (prefix_follows bound t.change edges total).follows (edge_list (take n log) id1 atype) old sorted was in
    let list : list_after t.change (edge_list (take n log) id1 atype) ≡ edge_list (take (n + 1) log) id1 atype = sym (s.applies.list_is id1 atype key)
    ∙ ap (λ l. edge_list l id1 atype) (sym s.with_it) in
    exact_from log (Assocs id1 atype) (λ part. IsPrefixOf after (total_after t.change total) (edge_list part id1 atype)) (n + 1) (v + 1)
    (list_depends id1 atype after (total_after t.change total)) (ap (version (take (n + 1) log)) (sym key) ∙ after_it log t n v touch.entry s next)
    (subst (IsPrefixOf after (total_after t.change total)) list new)

pub exact_follows : (log : List Entry) (t : Touch) → ExactFollows log t
exact_follows log t = record { object_follows = object_next log t; list_follows = list_next log t }
