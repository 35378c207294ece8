-- The touches of a write, over tables that stay from call to call.
use Rattle.std.proofs.Common.{◌≡◌, ℕ, ◌+◌, ◌<◌, ◌≤◌, false, List, [], ◌∷◌, ◌++◌, length, map, take, get_or, refl, sym, ap, ◌∙◌}
use Rattle.std.proofs.lemmas.List.{map-append, take_more}
use Rattle.std.specs.List.{list_any}
use Rattle.tao_base.specs.EdgeTypes.{EdgeTypes}
use Rattle.tao_base.specs.declared.entry.Entry.{Entry}
use Rattle.tao_base.specs.declared.entry.Touch.{Touch}
use Rattle.tao_base.specs.declared.write.Write.{Write}
use Rattle.tao_base.specs.declared.write.Write.TheVariants.{ObjAdd, ObjUpdate, ObjDelete, AssocAdd, AssocDelete, AssocChangeType}
use Rattle.graph_model.specs.Soundness.{EdgeUpdate}
use Rattle.write_model.specs.Writes.{edge_touch, own_updates, touches_of, with_near_ends}
use Rattle.tao_keeper.specs.Table.{Table}
use Rattle.write_touches.proofs.StampLemmas.{past_is}
use Rattle.write_touches.specs.Edges.{is_past_stamps}
use Rattle.write_touches.specs.Touching.{AreTouches, IsEdgeWrite, lacks_serial}

-- one touch more
pub touch_more : (a b : Table) (us : List EdgeUpdate) (i : ℕ) (u : EdgeUpdate) (ts zs : List Touch) (t : Touch) → b ≡ a → i < length us → u ≡ get_or us i u
    → ts ≡ map (edge_touch a.log) (take i us) → t ≡ edge_touch b.log u → zs ≡ ts ++ t ∷ [] → zs ≡ map (edge_touch a.log) (take (i + 1) us)
touch_more a b us i u ts zs t stays lt is so_far made put =
    put ∙ ap (λ v. v ++ t ∷ []) so_far ∙ ap (λ v. map (edge_touch a.log) (take i us) ++ v ∷ []) (made ∙ ap (λ x. edge_touch x.log u) stays)
    ∙ sym (ap (map (edge_touch a.log)) (take_more us i u lt ∙ ap (λ y. take i us ++ y ∷ []) (sym is)) ∙ map-append (edge_touch a.log) (take i us) (u ∷ []))

edge_touches_are : (types : EdgeTypes) (epoch : ℕ) (log : List Entry) (write : Write) → IsEdgeWrite write
    → map (edge_touch log) (with_near_ends types (own_updates epoch log write)) ≡ touches_of types epoch log write
edge_touches_are types epoch log (AssocAdd id1 atype id2 time payload) edge = refl
edge_touches_are types epoch log (AssocDelete id1 atype id2) edge = refl
edge_touches_are types epoch log (AssocChangeType id1 atype id2 newtype) edge = refl
edge_touches_are types epoch log (ObjAdd shard otype payload) edge = absurd edge
edge_touches_are types epoch log (ObjUpdate id payload) edge = absurd edge
edge_touches_are types epoch log (ObjDelete id) edge = absurd edge

edge_serial : (log : List Entry) (write : Write) → IsEdgeWrite write → lacks_serial log write ≡ false
edge_serial log (AssocAdd id1 atype id2 time payload) edge = refl
edge_serial log (AssocDelete id1 atype id2) edge = refl
edge_serial log (AssocChangeType id1 atype id2 newtype) edge = refl
edge_serial log (ObjAdd shard otype payload) edge = absurd edge
edge_serial log (ObjUpdate id payload) edge = absurd edge
edge_serial log (ObjDelete id) edge = absurd edge

-- the touches of a write to an edge
pub edge_done : (types : EdgeTypes) (epoch : ℕ) → epoch ≤ 1000 → (a b : Table) (write : Write) (own us : List EdgeUpdate) (ts : List Touch)
    → b ≡ a → IsEdgeWrite write → own ≡ own_updates epoch a.log write → list_any is_past_stamps own ≡ false → us ≡ with_near_ends types own
    → ts ≡ map (edge_touch b.log) us → AreTouches types epoch a.log write ts
edge_done types epoch few a b write own us ts stays edge owned stamps ends made = record {
  touches_are =
      made ∙ ap (λ x. map (edge_touch x.log) us) stays ∙ ap (map (edge_touch a.log)) (ends ∙ ap (with_near_ends types) owned)
      ∙ edge_touches_are types epoch a.log write edge;
  serial = edge_serial a.log write edge;
  stamps = past_is epoch few a.log write own false owned stamps;
}
