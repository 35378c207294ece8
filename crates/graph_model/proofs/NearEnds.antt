-- In a sound log of a shard both near ends of an edge have the same record: each entry writes both, or neither.
use Rattle.std.proofs.Common.{◌≡◌, ◌≢◌, ℕ, List, [], ◌∷◌, ◌++◌, refl, sym, ap, ◌∙◌}
use Rattle.std.proofs.Math.Logic.{∥∥₁_elim}
use Rattle.std.proofs.Props.{props}
use Rattle.std.proofs.lemmas.List.Elements.{All-contains, All-pop}
use Rattle.std.specs.Option.{option_or}
use Rattle.std.specs.Prelude.{AllPairs, Contains, IfSome, Option, Some, None}
use Rattle.tao_base.specs.EdgeTypes.{EdgeTypes, InversesMatch}
use Rattle.tao_base.specs.Ids.{shard_of}
use Rattle.tao_base.specs.declared.edge.EdgeState.{EdgeState}
use Rattle.tao_base.specs.declared.entry.Entry.{Entry}
use Rattle.tao_base.specs.declared.id.AType.{AType}
use Rattle.tao_base.specs.declared.id.Id.{Id}
use Rattle.graph_model.proofs.Lists.{snoc_ind}
use Rattle.graph_model.proofs.Members.{if_some_at}
use Rattle.graph_model.proofs.Sound.{before_last, last_follows}
use Rattle.graph_model.specs.Edges.{edge_record}
use Rattle.graph_model.specs.EndLaws.{NearEndsArePaired}
use Rattle.graph_model.specs.Soundness.{EdgeUpdate, IsSoundOf, KeepsEnds, other_end, updates_of}
use Rattle.graph_model.proofs.Updates.{edge_record-append, record_of_update, update_of_record}

-- an entry that keeps both ends leaves the same record at both
pub other_end-is : (types : EdgeTypes) (inverse : AType) (u : EdgeUpdate) → types.inverse u.1 ≡ Some inverse → other_end types u ≡ Some (u.2, inverse, u.0, u.3)
other_end-is types inverse u h = rw h refl

-- where the entry keeps both ends, it writes the other end of its record too
pub other_end_written : (types : EdgeTypes) (shard : ℕ) (e : Entry) → KeepsEnds types shard e → (u v : EdgeUpdate) → Contains (updates_of e) u
    → shard_of u.2 ≡ shard → other_end types u ≡ Some v → ∥ Contains (updates_of e) v ∥₁
other_end_written types shard e keeps u v h near other =
    if_some_at (λ x. ∥ Contains (updates_of e) x ∥₁) (other_end types u) v
    (All-contains (λ x. shard_of x.2 ≡ shard → IfSome (other_end types x) (λ y. ∥ Contains (updates_of e) y ∥₁)) (updates_of e) u keeps.both h near) other

one_way : (types : EdgeTypes) (shard : ℕ) (e : Entry) (id1 : Id) (atype inverse : AType) (id2 : Id) (s : EdgeState) → AllPairs (λ r t. r.key ≢ t.key) e.touches
    → KeepsEnds types shard e → types.inverse atype ≡ Some inverse → shard_of id2 ≡ shard
    → edge_record (e ∷ []) id1 atype id2 ≡ Some s → edge_record (e ∷ []) id2 inverse id1 ≡ Some s
one_way types shard e id1 atype inverse id2 s once keeps inv here h =
    let u : EdgeUpdate = (id1, atype, id2, s) in
    let both = other_end_written types shard e keeps u (id2, inverse, id1, s) (update_of_record e id1 atype id2 s once h) here
    (other_end-is types inverse u inv) in
    ∥∥₁_elim both (hlevel props) (record_of_update e id2 inverse id1 s once)

same_option : {X : Type 0} (o p : Option X) → ((x : X) → o ≡ Some x → p ≡ Some x) → ((x : X) → p ≡ Some x → o ≡ Some x) → o ≡ p
same_option None None f g = refl
same_option None (Some x) f g = g x refl
same_option (Some x) p f g = sym (f x refl)

entry_pairs : (types : EdgeTypes) (shard : ℕ) (e : Entry) (id1 : Id) (atype inverse : AType) (id2 : Id) → InversesMatch types
    → AllPairs (λ r t. r.key ≢ t.key) e.touches
    → KeepsEnds types shard e → types.inverse atype ≡ Some inverse → shard_of id1 ≡ shard → shard_of id2 ≡ shard
    → edge_record (e ∷ []) id1 atype id2 ≡ edge_record (e ∷ []) id2 inverse id1
entry_pairs types shard e id1 atype inverse id2 match once keeps inv here there = same_option (edge_record (e ∷ []) id1 atype id2)
    (edge_record (e ∷ []) id2 inverse id1)
    (λ s. one_way types shard e id1 atype inverse id2 s once keeps inv there)
    (λ s. one_way types shard e id2 inverse atype id1 s once keeps (match atype inverse inv) here)

pub near_ends_are_paired : (shard : ℕ) (log : List Entry) → NearEndsArePaired shard log
near_ends_are_paired shard log types match sound id1 atype inverse id2 inv here there =
    snoc_ind (λ xs. IsSoundOf types shard xs → edge_record xs id1 atype id2 ≡ edge_record xs id2 inverse id1) (λ s. refl) step log sound
  where
    step : (xs : List Entry) (e : Entry) → (IsSoundOf types shard xs → edge_record xs id1 atype id2 ≡ edge_record xs id2 inverse id1)
        → IsSoundOf types shard (xs ++ e ∷ []) → edge_record (xs ++ e ∷ []) id1 atype id2 ≡ edge_record (xs ++ e ∷ []) id2 inverse id1
    step xs e ih s =
        let ends = All-pop (KeepsEnds types shard) (xs ++ e ∷ []) xs (Some e) refl s.ends in
        let before : edge_record xs id1 atype id2 ≡ edge_record xs id2 inverse id1 = ih (record { sound = before_last xs e s.sound; ends = ends.0 }) in
        let now : edge_record (e ∷ []) id1 atype id2 ≡ edge_record (e ∷ []) id2 inverse id1 = entry_pairs types shard e id1 atype inverse id2 match
        (last_follows xs e s.sound).once ends.1 inv here there in
        edge_record-append xs e id1 atype id2 ∙ ap (λ o. option_or o (edge_record xs id1 atype id2)) now
        ∙ ap (option_or (edge_record (e ∷ []) id2 inverse id1)) before
        ∙ sym (edge_record-append xs e id2 inverse id1)
