-- The first node of a name.
use Rattle.std.proofs.Common.{◌≡◌, ◌≢◌, ℕ, zero, suc, ◌<◌, List, [], ◌∷◌, length, arith}
use Rattle.std.specs.Prelude.{All, HoldsAt, IsSomeAnd, slice_get, slice_index_or}
use Rattle.std.specs.List.{AllWithin}
use Rattle.node_name.specs.declared.NodeName.{NodeName}
use Rattle.core_model.specs.Fleet.{HasNode, IsFirstAt, node_names}
use Rattle.core_model.specs.declared.named.Named.{Named}

-- what holds at a place of the list holds of the element there
at_place : {X : Type 0} (P : X → Type 0) (xs : List X) (place : ℕ) → place < length xs → HoldsAt P xs place → IsSomeAnd (slice_get xs place) P
at_place P [] place lt holds = absurd (omega arith)
at_place P (x ∷ xs) zero lt holds = holds x
at_place P (x ∷ xs) (suc place) lt holds = at_place P xs place (omega arith) holds

-- and what doesn't, doesn't
not_at_place : {X : Type 0} (P : X → Type 0) (xs : List X) (place : ℕ) → ((d : X) → P (slice_index_or xs place d) → ⊥) → IsSomeAnd (slice_get xs place) P → ⊥
not_at_place P [] place fails h = h
not_at_place P (x ∷ xs) zero fails h = fails x h
not_at_place P (x ∷ xs) (suc place) fails h = not_at_place P xs place fails h

not_named : {N : Type 0} (nodes : List (Named N)) (name : NodeName) (place : ℕ) → place < length (node_names nodes)
    → slice_index_or (node_names nodes) place name ≡ name
    → ((k : ℕ) (d : Named N) → k < length nodes → (slice_index_or nodes k d).name ≢ name) → ⊥
not_named [] name place lt is fails = omega arith
not_named (n ∷ ns) name zero lt is fails = fails 0 n (omega arith) is
not_named (n ∷ ns) name (suc place) lt is fails = not_named ns name place (omega arith) is (λ k d within. fails (suc k) d (omega arith))

pub none_named : {N : Type 0} (nodes : List (Named N)) (name : NodeName) → All (λ n. n.name ≢ name) nodes → HasNode name nodes → ⊥
none_named nodes name none has = not_named nodes name has.0 has.1 has.2 none

pub first_at : {N : Type 0} (nodes : List (Named N)) (name : NodeName) (place : ℕ)
    → (place < length nodes) × HoldsAt (λ n. n.name ≡ name) nodes place × AllWithin (λ n. n.name ≢ name) nodes 0 place → IsFirstAt name nodes place
first_at nodes name place found = record {
  here = at_place (λ n. n.name ≡ name) nodes place found.0 found.1;
  before = λ other lt is. not_at_place (λ n. n.name ≡ name) nodes other (λ d. found.2 other d (omega arith) lt) is;
}
