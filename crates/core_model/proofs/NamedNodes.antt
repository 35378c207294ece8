-- Nodes by their names, of which one changes.
use Rattle.std.proofs.Common.{◌≡◌, ℕ, zero, suc, List, [], ◌∷◌, Option, Some, IfOk, OnErr, Result, Ok, Err, refl, ap, sym, ◌∙◌, subst, inl, inr}
use Rattle.std.specs.Prelude.{slice_get, slice_index_or, slice_set}
use Rattle.node_name.specs.declared.NodeName.{NodeName}
use Rattle.core_model.specs.Fleet.{ChangesNode, EachNode, IsFirstAt, named, node_names}
use Rattle.core_model.specs.declared.named.Named.{Named}
use Rattle.core_model.proofs.Places.{IsRead, get_set, one_some, read_at, set_same}

-- the node that code reads at the first place of a name
pub named_at : {N : Type 0} (nodes : List (Named N)) (name : NodeName) (place : ℕ) (d : Named N) → IsFirstAt name nodes place
    → IsRead nodes place d (λ n. n.name ≡ name)
named_at nodes name place d first = read_at nodes place d (λ n. n.name ≡ name) first.here

stands_named : {N : Type 0} (o : Option (Named N)) (n : Named N) (name : NodeName) → o ≡ Some n → n.name ≡ name → o ≡ Some (named name n.node)
stands_named o n name stands is = stands ∙ ap (λ x. Some (named x n.node)) is

pub named_stands : {N : Type 0} (nodes : List (Named N)) (name : NodeName) (place : ℕ) (d : Named N) → IsFirstAt name nodes place
    → slice_get nodes place ≡ Some (named name (slice_index_or nodes place d).node)
named_stands nodes name place d first =
    let at = named_at nodes name place d first in
    stands_named (slice_get nodes place) (slice_index_or nodes place d) name at.stands at.is

-- it changes
pub changes_at : {N : Type 0} (By : N → N → Type 0) (nodes : List (Named N)) (name : NodeName) (place : ℕ) (d : Named N) (to : N) → IsFirstAt name nodes place
    → By (slice_index_or nodes place d).node to → ChangesNode name By nodes (slice_set nodes place (record (slice_index_or nodes place d) { node = to }))
changes_at By nodes name place d to first by = record {
  place = place;
  first = first;
  from = (slice_index_or nodes place d).node;
  to = to;
  stands = named_stands nodes name place d first;
  by = by;
  is = ap (λ x. slice_set nodes place (named x to)) (named_at nodes name place d first).is;
}

-- the same by what a call answered: it changes with an answer, and rests after an error
pub changes_ok : {N T E : Type 0} (By : T → N → N → Type 0) (nodes : List (Named N)) (name : NodeName) (place : ℕ) (d : Named N) (to : N) (r : Result T E)
    → IsFirstAt name nodes place
    → IfOk r (λ t. By t (slice_index_or nodes place d).node to)
    → IfOk r (λ t. ChangesNode name (By t) nodes (slice_set nodes place (record (slice_index_or nodes place d) { node = to })))
changes_ok By nodes name place d to (Ok t) first by = changes_at (By t) nodes name place d to first by
changes_ok By nodes name place d to (Err e) first by = tt

pub changes_err : {N T E : Type 0} (By : N → N → Type 0) (nodes : List (Named N)) (name : NodeName) (place : ℕ) (d : Named N) (to : N) (r : Result T E)
    → IsFirstAt name nodes place
    → OnErr r (By (slice_index_or nodes place d).node to)
    → OnErr r (ChangesNode name By nodes (slice_set nodes place (record (slice_index_or nodes place d) { node = to })))
changes_err By nodes name place d to (Ok t) first by = tt
changes_err By nodes name place d to (Err e) first by = changes_at By nodes name place d to first by

-- it rests
pub rests_at : {N : Type 0} (nodes : List (Named N)) (name : NodeName) (place : ℕ) (d : Named N) (to : N) → IsFirstAt name nodes place
    → to ≡ (slice_index_or nodes place d).node → slice_set nodes place (record (slice_index_or nodes place d) { node = to }) ≡ nodes
rests_at nodes name place d to first rests =
    ap (λ x. slice_set nodes place (record (slice_index_or nodes place d) { node = x })) rests
    ∙ set_same nodes place (slice_index_or nodes place d) (named_at nodes name place d first).stands

pub rests_err : {N T E : Type 0} (nodes : List (Named N)) (name : NodeName) (place : ℕ) (d : Named N) (to : N) (r : Result T E) → IsFirstAt name nodes place
    → OnErr r (to ≡ (slice_index_or nodes place d).node) → OnErr r (slice_set nodes place (record (slice_index_or nodes place d) { node = to }) ≡ nodes)
rests_err nodes name place d to (Ok t) first rests = tt
rests_err nodes name place d to (Err e) first rests = rests_at nodes name place d to first rests

-- a change is also what follows of it
pub changes_so : {N : Type 0} (By So : N → N → Type 0) (name : NodeName) (old new : List (Named N)) → ((from to : N) → By from to → So from to)
    → ChangesNode name By old new
    → ChangesNode name So old new
changes_so By So name old new so change = record {
  place = change.place;
  first = change.first;
  from = change.from;
  to = change.to;
  stands = change.stands;
  by = so change.from change.to change.by;
  is = change.is;
}

-- the names stay
pub names_set : {N : Type 0} (nodes : List (Named N)) (place : ℕ) (name : NodeName) (from to : N) → slice_get nodes place ≡ Some (named name from)
    → node_names (slice_set nodes place (named name to)) ≡ node_names nodes
names_set [] place name from to h = refl
names_set (n ∷ ns) zero name from to h = (let e : n ≡ named name from = one_some n (named name from) h in
    ap (λ x. x ∷ node_names ns) (sym (ap (λ m. m.name) e)))
names_set (n ∷ ns) (suc place) name from to h = ap (λ xs. n.name ∷ xs) (names_set ns place name from to h)

-- what is so of every node of a name stays so, where it is so of the one that changes
pub all_set : {N : Type 0} (Such : NodeName → N → Type 0) (nodes : List (Named N)) (place : ℕ) (name : NodeName) (to : N)
    → ((other : ℕ) (called : NodeName) (node : N) → slice_get nodes other ≡ Some (named called node) → Such called node) → Such name to
    → (other : ℕ) (called : NodeName) (node : N) → slice_get (slice_set nodes place (named name to)) other ≡ Some (named called node) → Such called node
all_set Such nodes place name to all is other called node h = elim (get_set nodes place (named name to) other (named called node) h) [
  | inl e ↦ all other called node e.1
  | inr e ↦ subst (λ n. Such n.name n.node) e.1 is
]

-- each node stays
pub each_stays : {N : Type 0} (By : N → N → Type 0) (nodes : List (Named N)) → ((node : N) → By node node) → EachNode (λ name. By) nodes nodes
each_stays By nodes stays place name to at = (to, at, stays to)

-- or one of them changes
pub each_set : {N : Type 0} (By : N → N → Type 0) (nodes : List (Named N)) (place : ℕ) (name : NodeName) (from to : N) → ((node : N) → By node node)
    → slice_get nodes place ≡ Some (named name from) → By from to → EachNode (λ called. By) nodes (slice_set nodes place (named name to))
each_set By nodes place name from to stays stands by other called node h = elim (get_set nodes place (named name to) other (named called node) h) [
  | inl e ↦ (node, e.1, stays node)
  | inr e ↦
      let there = ap (slice_get nodes) e.0 ∙ stands ∙ ap (λ n. Some (named n.name from)) e.1 in
      (from, there, subst (λ n. By from n.node) e.1 by)
]

-- and one thing comes after another
pub each_on : {N : Type 0} (By : N → N → Type 0) (old mid new : List (Named N)) → ((from between to : N) → By from between → By between to → By from to)
    → EachNode (λ name. By) old mid → EachNode (λ name. By) mid new → EachNode (λ name. By) old new
each_on By old mid new joins first second place name to at =
    let between = second place name to at in
    let from = first place name between.0 between.1 in
    (from.0, from.1, joins from.0 between.0 to from.2 between.2)
