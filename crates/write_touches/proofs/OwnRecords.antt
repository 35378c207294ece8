-- The records that a write gives at id1 are those that the log gives.
use Rattle.std.proofs.Common.{◌≡◌, ℕ, List, [], ◌∷◌, refl, sym, ap, ◌∙◌}
use Rattle.std.specs.Prelude.{Option, Some, None}
use Rattle.tao_base.specs.declared.data.Pair.{Pair}
use Rattle.tao_base.specs.declared.edge.EdgeState.{EdgeState}
use Rattle.tao_base.specs.declared.edge.EdgeState.TheVariants.{Live, Cut}
use Rattle.tao_base.specs.declared.entry.Entry.{Entry}
use Rattle.tao_base.specs.declared.id.AType.{AType}
use Rattle.tao_base.specs.declared.id.Id.{Id}
use Rattle.tao_base.specs.declared.write.Write.{Write}
use Rattle.tao_base.specs.declared.write.Write.TheVariants.{AssocAdd, AssocDelete, AssocChangeType}
use Rattle.graph_model.specs.Edges.{edge_record}
use Rattle.graph_model.specs.Soundness.{EdgeUpdate}
use Rattle.write_model.proofs.Forward.{cut_where_live, move_where_live}
use Rattle.write_model.specs.Writes.{next_stamp, own_updates}
use Rattle.tao_keeper.specs.Table.{Table}
use Rattle.write_touches.specs.Edges.{cut_over, move_over, stamp_after}

cut_same : (epoch : ℕ) (log : List Entry) (id1 : Id) (atype : AType) (id2 : Id) (old : Option EdgeState) → old ≡ edge_record log id1 atype id2
    → cut_over epoch id1 atype id2 old ≡ cut_where_live epoch log id1 atype id2 old
cut_same epoch log id1 atype id2 (Some (Live time payload stamp)) e = ap (λ o. (id1, atype, id2, Cut (stamp_after epoch id1 o)) ∷ []) e
cut_same epoch log id1 atype id2 (Some (Cut stamp)) e = refl
cut_same epoch log id1 atype id2 None e = refl

move_same : (epoch : ℕ) (log : List Entry) (id1 : Id) (atype : AType) (id2 : Id) (newtype : AType) (old there : Option EdgeState)
    → old ≡ edge_record log id1 atype id2 → there ≡ edge_record log id1 newtype id2
    → move_over epoch id1 atype id2 newtype old there ≡ move_where_live epoch log id1 atype id2 newtype old
move_same epoch log id1 atype id2 newtype (Some (Live time payload stamp)) there e f =
    ap (λ o. (id1, atype, id2, Cut (stamp_after epoch id1 o)) ∷ (id1, newtype, id2, Live time payload (stamp_after epoch id1 there)) ∷ []) e
    ∙ ap (λ o. (id1, atype, id2, Cut (next_stamp epoch log id1 atype id2)) ∷ (id1, newtype, id2, Live time payload (stamp_after epoch id1 o)) ∷ []) f
move_same epoch log id1 atype id2 newtype (Some (Cut stamp)) there e f = refl
move_same epoch log id1 atype id2 newtype None there e f = refl

pub set_is : (epoch : ℕ) (log : List Entry) (write : Write) (id1 : Id) (atype : AType) (id2 : Id) (time : ℕ) (payload : List Pair) (old : Option EdgeState)
    (us : List EdgeUpdate)
    → write ≡ AssocAdd id1 atype id2 time payload → old ≡ edge_record log id1 atype id2
    → us ≡ (id1, atype, id2, Live time payload (stamp_after epoch id1 old)) ∷ [] → us ≡ own_updates epoch log write
set_is epoch log write id1 atype id2 time payload old us is e h =
    h ∙ ap (λ o. (id1, atype, id2, Live time payload (stamp_after epoch id1 o)) ∷ []) e ∙ ap (own_updates epoch log) (sym is)

pub cut_is : (epoch : ℕ) (log : List Entry) (write : Write) (id1 : Id) (atype : AType) (id2 : Id) (old : Option EdgeState) (us : List EdgeUpdate)
    → write ≡ AssocDelete id1 atype id2 → old ≡ edge_record log id1 atype id2 → us ≡ cut_over epoch id1 atype id2 old → us ≡ own_updates epoch log write
cut_is epoch log write id1 atype id2 old us is e h =
    h ∙ cut_same epoch log id1 atype id2 old e ∙ ap (cut_where_live epoch log id1 atype id2) e ∙ ap (own_updates epoch log) (sym is)

-- the second record is asked of tables that are still the same
pub move_is : (epoch : ℕ) (old_tables new_tables : Table) (write : Write) (id1 : Id) (atype : AType) (id2 : Id) (newtype : AType) (old there : Option EdgeState)
    (us : List EdgeUpdate)
    → write ≡ AssocChangeType id1 atype id2 newtype → new_tables ≡ old_tables → old ≡ edge_record old_tables.log id1 atype id2
    → there ≡ edge_record new_tables.log id1 newtype id2 → us ≡ move_over epoch id1 atype id2 newtype old there → us ≡ own_updates epoch old_tables.log write
move_is epoch old_tables new_tables write id1 atype id2 newtype old there us is stays e f h =
    h ∙ move_same epoch old_tables.log id1 atype id2 newtype old there e (f ∙ ap (λ t. edge_record t.log id1 newtype id2) stays)
    ∙ ap (move_where_live epoch old_tables.log id1 atype id2 newtype) e ∙ ap (own_updates epoch old_tables.log) (sym is)
