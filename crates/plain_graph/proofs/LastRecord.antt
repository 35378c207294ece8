-- The record of an edge, found from the last change back.
use Rattle.std.proofs.Common.{◌≡◌, ℕ, true, List, [], ◌∷◌, refl, inl, inr, map, reverse, Bor}
use Rattle.std.proofs.lemmas.Bool.{cases_Bool}
use Rattle.std.proofs.lemmas.List.{map-append, reverse-append}
use Rattle.std.specs.Prelude.{Option, find, option_and_then, option_copied}
use Rattle.std.specs.Option.{option_or}
use Rattle.tao_base.specs.declared.edge.EdgeState.{EdgeState}
use Rattle.tao_base.specs.declared.entry.Change.{Change}
use Rattle.tao_base.specs.declared.entry.Change.TheVariants.{PutObject, DropObject, SetEdge, CutEdge}
use Rattle.graph_model.proofs.Lists.{record_in-snoc, snoc_ind}
use Rattle.graph_model.specs.Edges.{is_at, record_in, state_left}

-- a change of an edge leaves a record of it
leaves_record : (c : Change) (id2 : ℕ) (found : Option EdgeState) → is_at id2 c ≡ true → state_left c ≡ option_or (state_left c) found
leaves_record (SetEdge e was) id2 found h = refl
leaves_record (CutEdge other stamp was) id2 found h = refl
leaves_record (PutObject object) id2 found h = absurd (cc)
leaves_record DropObject id2 found h = absurd (cc)

-- what the last change of the edge leaves is its record
pub record_found : (changes : List (Bor Change)) (id2 : ℕ)
    → option_and_then state_left (option_copied (find (λ c. is_at id2 c.now) (reverse changes))) ≡ record_in (map (λ c. c.now) changes) id2
record_found changes id2 = snoc_ind
    (λ cs. option_and_then state_left (option_copied (find (λ c. is_at id2 c.now) (reverse cs))) ≡ record_in (map (λ c. c.now) cs) id2) refl
    (λ cs c ih. rw (reverse-append cs (c ∷ []), map-append (λ (x : Bor Change). x.now) cs (c ∷ []), record_in-snoc (map (λ x. x.now) cs) c.now id2)
    (elim (cases_Bool (is_at id2 c.now)) [
      | inl k ↦ rw k (leaves_record c.now id2 (record_in (map (λ x. x.now) cs) id2) k)
      | inr k ↦ rw k ih
    ])) changes
