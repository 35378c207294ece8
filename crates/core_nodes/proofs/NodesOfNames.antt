-- The node of a name is such, and is so after it changed.
use Rattle.std.proofs.Common.{◌≡◌, ◌≢◌, ◌<◌, ℕ, zero, suc, List, [], ◌∷◌, Option, None, Some, length, refl, ap, subst, sym, ◌∙◌, inl, inr, arith}
use Rattle.std.proofs.lemmas.Bool.{cases_order}
use Rattle.std.proofs.lemmas.Option.{slice_get_within}
use Rattle.std.specs.Prelude.{IsSomeAnd, slice_get, slice_index_or, slice_set}
use Rattle.node_name.specs.declared.NodeName.{NodeName}
use Rattle.core_model.specs.Fleet.{ChangesNode, IsFirstAt, IsNodeOfName, named}
use Rattle.core_model.specs.declared.named.Named.{Named}
use Rattle.core_model.proofs.NamedNodes.{named_at, named_stands}
use Rattle.core_model.proofs.Places.{get_set, one_some, set_get, some_and}
use Rattle.core_nodes.specs.Stages.{NodeIs}

some_there : {X : Type 0} (P : X → Type 0) (o : Option X) → IsSomeAnd o P → (x : X) × (o ≡ Some x)
some_there P None h = absurd h
some_there P (Some x) h = (x, refl)

-- the first place of a name is within the list
pub first_within : {N : Type 0} (nodes : List (Named N)) (name : NodeName) (place : ℕ) → IsFirstAt name nodes place → place < length nodes
first_within nodes name place first =
    let there = some_there (λ n. n.name ≡ name) (slice_get nodes place) first.here in
    slice_get_within nodes place there.0 there.1

-- the node of the name is what it is said to be
pub holds_at : {N : Type 0} (Such : N → Type 0) (nodes : List (Named N)) (name : NodeName) (place : ℕ) (d : Named N) → IsFirstAt name nodes place
    → NodeIs name Such nodes
    → Such (slice_index_or nodes place d).node
holds_at Such nodes name place d first holds = holds place (slice_index_or nodes place d).node first (named_stands nodes name place d first)

-- the one that is first of its name is the node of the name
pub is_here : {N : Type 0} (Such : N → Type 0) (nodes : List (Named N)) (name : NodeName) (place : ℕ) (d : Named N) → IsFirstAt name nodes place
    → Such (slice_index_or nodes place d).node → NodeIs name Such nodes
is_here {N} Such nodes name place d first such other node second at = elim (cases_order other place) [
  | inl same ↦ (
      let both : Some (named name (slice_index_or nodes place d).node) ≡ Some (named name node) =
      sym (named_stands nodes name place d first) ∙ (ap (slice_get nodes) (sym same) ∙ at) in
      subst Such (ap (λ (n : Named N). n.node) (one_some (named name (slice_index_or nodes place d).node) (named name node) both)) such)
  | inr (inl before) ↦ absurd (first.before other before second.here)
  | inr (inr after) ↦ absurd (second.before place after first.here)
]

-- the node that changed is the one of its name afterwards
same_place : {N : Type 0} (By : N → N → Type 0) (name : NodeName) (old new : List (Named N)) (place : ℕ) (node : N) (change : ChangesNode name By old new)
    → IsFirstAt name new place
    → place ≢ change.place → slice_get old place ≡ Some (named name node) → ⊥
same_place By name old new place node change first differ at = elim (cases_order place change.place) [
  | inl same ↦ differ same
  | inr (inl before) ↦ change.first.before place before (some_and (slice_get old place) (named name node) (λ n. n.name ≡ name) at refl)
  | inr (inr after) ↦
      let there = ap (λ xs. slice_get xs change.place) change.is ∙ set_get old change.place (named name change.from) (named name change.to) change.stands in
      first.before change.place after (some_and (slice_get new change.place) (named name change.to) (λ n. n.name ≡ name) there refl)
]

pub is_after : {N : Type 0} (Such : N → Type 0) (By : N → N → Type 0) (name : NodeName) (old new : List (Named N)) (change : ChangesNode name By old new)
    → Such change.to
    → NodeIs name Such new
is_after Such By name old new change is place node first h =
    let at : slice_get (slice_set old change.place (named name change.to)) place ≡ Some (named name node) =
    subst (λ xs. slice_get xs place ≡ Some (named name node)) change.is h in
    elim (get_set old change.place (named name change.to) place (named name node) at) [
      | inl e ↦ absurd (same_place By name old new place node change first e.0 e.1)
      | inr e ↦ subst (λ n. Such n.node) e.1 is
    ]

-- what stands before the place that is set
get_before : {X : Type 0} (xs : List X) (place other : ℕ) (x : X) → other < place → slice_get (slice_set xs place x) other ≡ slice_get xs other
get_before [] place other x lt = refl
get_before (y ∷ ys) zero other x lt = absurd (omega (arith, lt))
get_before (y ∷ ys) (suc place) zero x lt = refl
get_before (y ∷ ys) (suc place) (suc other) x lt = get_before ys place other x (omega (arith, lt))

-- the first node of a name, once it was set
pub node_set : {N : Type 0} (nodes : List (Named N)) (name : NodeName) (place : ℕ) (d : Named N) (to : N) → IsFirstAt name nodes place
    → IsNodeOfName name (slice_set nodes place (record (slice_index_or nodes place d) { node = to })) (Some to)
node_set {N} nodes name place d to first =
    let set = named name to in
    let here : slice_get (slice_set nodes place set) place ≡ Some set =
    set_get nodes place (named name (slice_index_or nodes place d).node) set (named_stands nodes name place d first) in
    let after : IsFirstAt name (slice_set nodes place set) place = record {
      here = some_and (slice_get (slice_set nodes place set) place) set (λ n. n.name ≡ name) here refl;
      before = λ other lt is. first.before other lt
          (subst (λ (o : Option (Named N)). IsSomeAnd o (λ n. n.name ≡ name)) (get_before nodes place other set lt) is);
    } in
    subst (λ xs. IsNodeOfName name xs (Some to)) (ap (λ x. slice_set nodes place (named x to)) (sym (named_at nodes name place d first).is))
    (place, after, here)
