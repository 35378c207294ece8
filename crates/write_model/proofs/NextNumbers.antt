-- The stamps of a write's records have the next number after that of a record of the log.
use Rattle.std.proofs.Common.{◌≡◌, ℕ, ◌+◌, List, [], ◌∷◌, ◌++◌, map, inl, inr, refl, sym, ap, ◌∙◌, subst}
use Rattle.std.specs.List.{list_any}
use Rattle.std.specs.Prelude.{Contains, Option, Some, None, filter_map, max, not}
use Rattle.tao_base.specs.EdgeTypes.{EdgeTypes}
use Rattle.tao_base.specs.Stamps.{stamp_of}
use Rattle.tao_base.specs.declared.edge.EdgeState.{EdgeState}
use Rattle.tao_base.specs.declared.edge.EdgeState.TheVariants.{Live, Cut}
use Rattle.tao_base.specs.declared.edge.Object.{Object}
use Rattle.tao_base.specs.declared.entry.Change.{Change}
use Rattle.tao_base.specs.declared.entry.Change.TheVariants.{PutObject, DropObject}
use Rattle.tao_base.specs.declared.entry.Entry.{Entry}
use Rattle.tao_base.specs.declared.entry.Kind.{Kind}
use Rattle.tao_base.specs.declared.entry.Kind.TheVariants.{ObjAdd as ObjAdded, ObjUpdate as ObjUpdated, ObjDelete as ObjDeleted}
use Rattle.tao_base.specs.declared.entry.Kind.TheVariants.{AssocAdd as AssocAdded, AssocDelete as AssocDeleted, AssocChangeType as TypeChanged}
use Rattle.tao_base.specs.declared.entry.Origin.{Origin}
use Rattle.tao_base.specs.declared.id.AType.{AType}
use Rattle.tao_base.specs.declared.id.Id.{Id}
use Rattle.tao_base.specs.declared.id.Key.TheVariants.{Obj}
use Rattle.tao_base.specs.declared.write.Write.{Write}
use Rattle.tao_base.specs.declared.write.Write.TheVariants.{ObjAdd, ObjUpdate, ObjDelete, AssocAdd, AssocDelete, AssocChangeType}
use Rattle.write_model.proofs.BothEnds.{other_end_is, when_some}
use Rattle.write_model.proofs.Forward.{cut_where_live, move_where_live, touch_where_there}
use Rattle.graph_model.proofs.Members.{IsIn, in_append_cases, in_filter_map_parts, in_filter_parts, in_from_contains}
use Rattle.write_model.proofs.Written.{given_entry, updates-touches}
use Rattle.graph_model.specs.Edges.{edge_record, number_of}
use Rattle.graph_model.specs.Log.{object}
use Rattle.graph_model.specs.Soundness.{EdgeUpdate, other_end, updates_of}
use Rattle.write_model.specs.Writes.{edge_touch, epoch_base, forward_entry, is_near, next_entry, next_id, next_stamp, own_updates, same_edge, touch_of}
use Rattle.write_model.specs.Writes.{touches_of, when, with_near_ends}
use Rattle.tao_base.specs.Writes.{write_kind}

-- the next number after that of a record of the log, in the epoch
pub record IsNextNumber (epoch : ℕ) (log : List Entry) (u : EdgeUpdate) : Type 0 where
  pub id1 : Id
  pub atype : AType
  pub id2 : Id
  pub number_is : (stamp_of u.3).number ≡ max (number_of (edge_record log id1 atype id2)) (epoch_base epoch) + 1

abbrev AllNext : ℕ → List Entry → List EdgeUpdate → Type 0
AllNext epoch log us = (u : EdgeUpdate) → IsIn u us → IsNextNumber epoch log u

next_of : (epoch : ℕ) (log : List Entry) (id1 : Id) (atype : AType) (id2 : Id) (state : EdgeState) → stamp_of state ≡ next_stamp epoch log id1 atype id2
    → (u : EdgeUpdate) → u.3 ≡ state → IsNextNumber epoch log u
next_of epoch log id1 atype id2 state next u same =
    record { id1 = id1; atype = atype; id2 = id2; number_is = ap (λ s. (stamp_of s).number) same ∙ ap (λ s. s.number) next }

none_next : (epoch : ℕ) (log : List Entry) → AllNext epoch log []
none_next epoch log u h = absurd h

one_next : (epoch : ℕ) (log : List Entry) (id1 : Id) (atype : AType) (id2 : Id) (state : EdgeState) → stamp_of state ≡ next_stamp epoch log id1 atype id2
    → AllNext epoch log ((id1, atype, id2, state) ∷ [])
one_next epoch log id1 atype id2 state next u (inl e) = next_of epoch log id1 atype id2 state next u (ap (λ v. v.3) (sym e))
one_next epoch log id1 atype id2 state next u (inr h) = absurd h

both_next : (types : EdgeTypes) (epoch : ℕ) (log : List Entry) (us : List EdgeUpdate) → AllNext epoch log us → AllNext epoch log (with_near_ends types us)
both_next types epoch log us own v h = elim (in_append_cases us _ v h) [
  | inl k ↦ own v k
  | inr k ↦ (
      let kept = in_filter_parts (λ x. not (list_any (same_edge x) us)) (filter_map (λ u. when (is_near u) (other_end types u)) us) v k in
      let made = in_filter_map_parts (λ u. when (is_near u) (other_end types u)) us v kept.0 in
      let other = other_end_is types made.0 v (when_some (is_near made.0) (other_end types made.0) v made.2).1 in
      let first : IsNextNumber epoch log made.0 = own made.0 made.1 in
      record { id1 = first.id1; atype = first.atype; id2 = first.id2; number_is = ap (λ s. (stamp_of s).number) other.state ∙ first.number_is })
]

cut_next : (epoch : ℕ) (log : List Entry) (id1 : Id) (atype : AType) (id2 : Id) (found : Option EdgeState)
    → AllNext epoch log (cut_where_live epoch log id1 atype id2 found)
cut_next epoch log id1 atype id2 (Some (Live time payload stamp)) = one_next epoch log id1 atype id2 (Cut (next_stamp epoch log id1 atype id2)) refl
cut_next epoch log id1 atype id2 (Some (Cut stamp)) = none_next epoch log
cut_next epoch log id1 atype id2 None = none_next epoch log

move_next : (epoch : ℕ) (log : List Entry) (id1 : Id) (atype : AType) (id2 : Id) (newtype : AType) (found : Option EdgeState)
    → AllNext epoch log (move_where_live epoch log id1 atype id2 newtype found)
move_next epoch log id1 atype id2 newtype (Some (Live time payload stamp)) u (inl e) =
    next_of epoch log id1 atype id2 (Cut (next_stamp epoch log id1 atype id2)) refl u (ap (λ v. v.3) (sym e))
move_next epoch log id1 atype id2 newtype (Some (Live time payload stamp)) u (inr (inl e)) =
    next_of epoch log id1 newtype id2 (Live time payload (next_stamp epoch log id1 newtype id2)) refl u (ap (λ v. v.3) (sym e))
move_next epoch log id1 atype id2 newtype (Some (Live time payload stamp)) u (inr (inr h)) = absurd h
move_next epoch log id1 atype id2 newtype (Some (Cut stamp)) u h = absurd h
move_next epoch log id1 atype id2 newtype None u h = absurd h

own_next : (epoch : ℕ) (log : List Entry) (write : Write) → AllNext epoch log (own_updates epoch log write)
own_next epoch log (ObjAdd on otype payload) = none_next epoch log
own_next epoch log (ObjUpdate id payload) = none_next epoch log
own_next epoch log (ObjDelete id) = none_next epoch log
own_next epoch log (AssocAdd id1 atype id2 time payload) = one_next epoch log id1 atype id2 (Live time payload (next_stamp epoch log id1 atype id2)) refl
own_next epoch log (AssocDelete id1 atype id2) = cut_next epoch log id1 atype id2 (edge_record log id1 atype id2)
own_next epoch log (AssocChangeType id1 atype id2 newtype) = move_next epoch log id1 atype id2 newtype (edge_record log id1 atype id2)

-- the entry of records writes them
edges_next : (epoch : ℕ) (log : List Entry) (kind : Kind) (origin : Origin) (us : List EdgeUpdate) (e : Entry) → AllNext epoch log us
    → next_entry log kind origin (map (edge_touch log) us) ≡ Some e
    → AllNext epoch log (updates_of e)
edges_next epoch log kind origin us e all h =
    subst (AllNext epoch log) (sym (updates-touches log us) ∙ ap updates_of (given_entry log kind origin (map (edge_touch log) us) e h).1) all

edge_write_next : (types : EdgeTypes) (epoch : ℕ) (log : List Entry) (kind : Kind) (origin : Origin) (write : Write) (e : Entry)
    → next_entry log kind origin (map (edge_touch log) (with_near_ends types (own_updates epoch log write))) ≡ Some e → AllNext epoch log (updates_of e)
edge_write_next types epoch log kind origin write e h =
    edges_next epoch log kind origin (with_near_ends types (own_updates epoch log write)) e
    (both_next types epoch log (own_updates epoch log write) (own_next epoch log write)) h

-- the entry of an object writes none
object_next : (epoch : ℕ) (log : List Entry) (kind : Kind) (origin : Origin) (id : Id) (change : Object → Change) (found : Option Object) (e : Entry)
    → next_entry log kind origin (touch_where_there log id change found ++ []) ≡ Some e → AllNext epoch log (updates_of e)
object_next epoch log kind origin id change None e h = absurd (cc)
object_next epoch log kind origin id change (Some old) e h =
    subst (λ x. AllNext epoch log (updates_of x)) (given_entry log kind origin (touch_of log (Obj id) (change old) ∷ []) e h).1 (none_next epoch log)

forward_next : (types : EdgeTypes) (epoch : ℕ) (log : List Entry) (origin : Origin) (write : Write) (e : Entry)
    → forward_entry types epoch log origin write ≡ Some e
    → AllNext epoch log (updates_of e)
forward_next types epoch log origin (ObjAdd on otype payload) e h =
    object_next epoch log ObjAdded origin (next_id on log) (λ old. PutObject old) (Some (record { otype = otype; payload = payload })) e h
forward_next types epoch log origin (ObjUpdate id payload) e h =
    object_next epoch log ObjUpdated origin id (λ old. PutObject (record old { payload = payload })) (object log id) e h
forward_next types epoch log origin (ObjDelete id) e h = object_next epoch log ObjDeleted origin id (λ old. DropObject) (object log id) e h
forward_next types epoch log origin (AssocAdd id1 atype id2 time payload) e h =
    edge_write_next types epoch log AssocAdded origin (AssocAdd id1 atype id2 time payload) e h
forward_next types epoch log origin (AssocDelete id1 atype id2) e h =
    edge_write_next types epoch log AssocDeleted origin (AssocDelete id1 atype id2) e h
forward_next types epoch log origin (AssocChangeType id1 atype id2 newtype) e h =
    edge_write_next types epoch log TypeChanged origin (AssocChangeType id1 atype id2 newtype) e h

-- each record of a write's entry has the next number after that of a record of the log
pub numbers_follow : (types : EdgeTypes) (epoch : ℕ) (log : List Entry) (origin : Origin) (write : Write) (e : Entry) (u : EdgeUpdate)
    → forward_entry types epoch log origin write ≡ Some e
    → Contains (updates_of e) u → IsNextNumber epoch log u
numbers_follow types epoch log origin write e u h k = forward_next types epoch log origin write e h u (in_from_contains (updates_of e) u k)

-- the entry has the write's origin
pub forward_origin : (types : EdgeTypes) (epoch : ℕ) (log : List Entry) (origin : Origin) (write : Write) (e : Entry)
    → forward_entry types epoch log origin write ≡ Some e
    → e.origin ≡ origin
forward_origin types epoch log origin write e h = ap (λ x. x.origin) (sym (given_entry log (write_kind write) origin (touches_of types epoch log write) e h).1)
