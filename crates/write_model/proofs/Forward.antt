-- The entry of a write follows the log.
use Rattle.std.proofs.Common.{◌≡◌, ℕ, ◌+◌, ◌<◌, ◌≢◌, Bool, true, false, List, [], ◌∷◌, ◌++◌, length, map, inl, inr, refl, sym, ap, subst, ◌∙◌, arith}
use Rattle.std.proofs.lemmas.List.Elements.{All-from_recursion}
use Rattle.std.specs.Prelude.{Option, Some, None, count_by, ◌^◌}
use Rattle.tao_base.specs.EdgeTypes.{EdgeTypes, InversesMatch}
use Rattle.tao_base.specs.Ids.{shard_of}
use Rattle.tao_base.specs.Stamps.{stamp_of}
use Rattle.tao_base.specs.declared.data.Pair.{Pair}
use Rattle.tao_base.specs.declared.id.Id.{Id}
use Rattle.tao_base.specs.declared.id.AType.{AType}
use Rattle.tao_base.specs.declared.id.Key.TheVariants.{Obj}
use Rattle.tao_base.specs.declared.edge.Edge.{Edge}
use Rattle.tao_base.specs.declared.edge.Object.{Object}
use Rattle.tao_base.specs.declared.edge.EdgeState.{EdgeState}
use Rattle.tao_base.specs.declared.edge.EdgeState.TheVariants.{Live, Cut}
use Rattle.tao_base.specs.declared.entry.Change.{Change}
use Rattle.tao_base.specs.declared.entry.Change.TheVariants.{PutObject, DropObject}
use Rattle.tao_base.specs.declared.entry.Kind.{Kind}
use Rattle.tao_base.specs.declared.entry.Kind.TheVariants.{ObjAdd as ObjAdded, ObjUpdate as ObjUpdated, ObjDelete as ObjDeleted}
use Rattle.tao_base.specs.declared.entry.Kind.TheVariants.{AssocAdd as AssocAdded, AssocDelete as AssocDeleted, AssocChangeType as TypeChanged}
use Rattle.tao_base.specs.declared.entry.Entry.{Entry}
use Rattle.tao_base.specs.declared.entry.Origin.{Origin}
use Rattle.tao_base.specs.declared.entry.Touch.{Touch}
use Rattle.tao_base.specs.declared.write.Write.{Write}
use Rattle.tao_base.specs.declared.write.Write.TheVariants.{ObjAdd, ObjUpdate, ObjDelete, AssocAdd, AssocDelete, AssocChangeType}
use Rattle.graph_model.proofs.Members.{IsIn, all_in}
use Rattle.write_model.proofs.BothEnds.{IsOneWrite, both_written}
use Rattle.write_model.proofs.Touches.{touch_follows, next_is_news}
use Rattle.write_model.proofs.Written.{entry_of, given_entry, stays_sound, written_stays}
use Rattle.graph_model.specs.Edges.{edge_record}
use Rattle.tao_base.specs.Keys.{key_shard}
use Rattle.graph_model.specs.Log.{object, is_addition}
use Rattle.graph_model.specs.Records.{is_news}
use Rattle.graph_model.specs.Soundness.{EdgeUpdate, TouchFollows, CanFollow, AreInOrder, IsSoundOf, IsNewOrigin}
use Rattle.write_model.specs.WriteLaws.{ForwardFollows, IsAdmitted, PlainAddFollows, StaysSound}
use Rattle.write_model.specs.Writes.{edge_touch, forward_entry, is_near, next_entry, next_id, next_stamp, touch_of, when, with_near_ends}

-- nothing, whatever the test says
when-none : (b : Bool) → when {X = EdgeUpdate} b None ≡ None
when-none true = refl
when-none false = refl

one_in_order : (t : Touch) → AreInOrder (t ∷ [])
one_in_order t = record {
  first = t ∷ [];
  second = [];
  joined = refl;
  some = omega arith;
  first_end = tt;
  second_end = tt;
  opposite = λ k d h i e j. absurd (omega arith);
}

-- an entry with one touch
one_touch_follows : (log : List Entry) (kind : Kind) (origin : Origin) (t : Touch) → IsNewOrigin log origin → TouchFollows log origin t
    → CanFollow log (record { position = length log + 1; kind = kind; origin = origin; touches = t ∷ [] })
one_touch_follows log kind origin t new follows = record {
  position_is = refl;
  ordered = ∣ one_in_order t ∣₁;
  once = λ i j d h k. absurd (omega arith);
  touches = All-from_recursion (TouchFollows log origin) (t ∷ []) (follows, tt);
  new_origin = new;
}

-- the entry that writes records at id1 and their near ends
edges_stay : (types : EdgeTypes) (shard : ℕ) (log : List Entry) (kind : Kind) (origin : Origin) (id1 id2 : ℕ) (us : List EdgeUpdate) (e : Entry)
    → InversesMatch types → IsSoundOf types shard log → IsNewOrigin log origin → shard_of id1 ≡ shard → IsOneWrite types log id1 id2 us
    → next_entry log kind origin (map (edge_touch log) (with_near_ends types us)) ≡ Some e → StaysSound types shard log e
edges_stay types shard log kind origin id1 id2 [] e match sound new here w h = absurd (cc)
edges_stay types shard log kind origin id1 id2 (u ∷ us) e match sound new here w h =
    written_stays types shard log kind origin (with_near_ends types (u ∷ us)) e sound new
    (both_written types shard log id1 id2 (u ∷ us) match sound here w origin (omega arith)) h

object_touch_follows : (log : List Entry) (origin : Origin) (id : ℕ) (change : Change) → TouchFollows log origin (touch_of log (Obj id) change)
object_touch_follows log origin id change = record { version_is = refl; was_is = tt; stamp_rises = tt; own_stamp = λ c. tt }

-- the entry that writes an object
object_stays : (types : EdgeTypes) (shard : ℕ) (log : List Entry) (kind : Kind) (origin : Origin) (id : ℕ) (change : Change)
    → IsSoundOf types shard log → IsNewOrigin log origin → shard_of id ≡ shard
    → StaysSound types shard log (entry_of log kind origin (touch_of log (Obj id) change ∷ []))
object_stays types shard log kind origin id change sound new here =
    let t : Touch = touch_of log (Obj id) change in
    stays_sound types shard log _ sound (one_touch_follows log kind origin t new (object_touch_follows log origin id change))
    (record { here = All-from_recursion (λ s. key_shard s.key ≡ shard) (t ∷ []) (here, tt); both = λ k d in'. absurd (omega arith) })

one_record : (types : EdgeTypes) (epoch : ℕ) (log : List Entry) (id1 : Id) (atype : AType) (id2 : Id) (state : EdgeState)
    → stamp_of state ≡ next_stamp epoch log id1 atype id2 → IsOneWrite types log id1 id2 ((id1, atype, id2, state) ∷ [])
one_record types epoch log id1 atype id2 state next =
    let u : EdgeUpdate = (id1, atype, id2, state) in
    record {
      ids = λ x h. all_in (λ y. (y.0 ≡ id1) × (y.2 ≡ id2)) (u ∷ []) x ((refl, refl), tt) h;
      news = λ x h. all_in (λ y. is_news log y ≡ true) (u ∷ []) x (next_is_news epoch log id1 atype id2 state next, tt) h;
      own = λ x h. all_in (λ y. (stamp_of y.3).shard ≡ shard_of y.0) (u ∷ []) x (ap (λ s. s.shard) next, tt) h;
      mates = (tt, tt);
      single = λ x y h k loop e. only x h ∙ sym (only y k);
    }
  where
    only : (x : EdgeUpdate) → IsIn x ((id1, atype, id2, state) ∷ []) → x ≡ (id1, atype, id2, state)
    only x (inl e) = sym e
    only x (inr h) = absurd h

-- the records of a change of type
abbrev moved : ℕ → List Entry → Id → AType → Id → AType → ℕ → List Pair → List EdgeUpdate
moved epoch log id1 atype id2 newtype time payload =
    (id1, atype, id2, Cut (next_stamp epoch log id1 atype id2)) ∷ (id1, newtype, id2, Live time payload (next_stamp epoch log id1 newtype id2)) ∷ []

two_records : (types : EdgeTypes) (epoch : ℕ) (log : List Entry) (id1 : Id) (atype : AType) (id2 : Id) (newtype : AType) (time : ℕ) (payload : List Pair)
    → InversesMatch types → atype ≢ newtype → (id1 ≡ id2 → types.inverse atype ≢ Some newtype)
    → IsOneWrite types log id1 id2 (moved epoch log id1 atype id2 newtype time payload)
two_records types epoch log id1 atype id2 newtype time payload match other apart =
    let cut : EdgeUpdate = (id1, atype, id2, Cut (next_stamp epoch log id1 atype id2)) in
    let set : EdgeUpdate = (id1, newtype, id2, Live time payload (next_stamp epoch log id1 newtype id2)) in
    record {
      ids = λ x h. all_in (λ y. (y.0 ≡ id1) × (y.2 ≡ id2)) (cut ∷ set ∷ []) x ((refl, refl), ((refl, refl), tt)) h;
      news = λ x h. all_in (λ y. is_news log y ≡ true) (cut ∷ set ∷ []) x
          (next_is_news epoch log id1 atype id2 cut.3 refl, (next_is_news epoch log id1 newtype id2 set.3 refl, tt)) h;
      own = λ x h. all_in (λ y. (stamp_of y.3).shard ≡ shard_of y.0) (cut ∷ set ∷ []) x (refl, (refl, tt)) h;
      mates = ((record { cut = record { states = tt; id1 = refl; id2 = refl }; types = other }, tt), (tt, tt));
      single = single;
    }
  where
    single : (u w : EdgeUpdate) → IsIn u (moved epoch log id1 atype id2 newtype time payload) → IsIn w (moved epoch log id1 atype id2 newtype time payload)
        → id1 ≡ id2 → types.inverse u.1 ≡ Some w.1 → u ≡ w
    single u w (inl h) (inl k) loop e = sym h ∙ k
    single u w (inr (inl h)) (inr (inl k)) loop e = sym h ∙ k
    single u w (inl h) (inr (inl k)) loop e = absurd (apart loop (ap (λ x. types.inverse x.1) h ∙ e ∙ ap (λ x. Some x.1) (sym k)))
    single u w (inr (inl h)) (inl k) loop e = absurd (apart loop (match newtype atype (ap (λ x. types.inverse x.1) h ∙ e ∙ ap (λ x. Some x.1) (sym k))))
    single u w (inr (inr h)) k loop e = absurd h
    single u w (inl h) (inr (inr k)) loop e = absurd k
    single u w (inr (inl h)) (inr (inr k)) loop e = absurd k

no_records : (types : EdgeTypes) (log : List Entry) (id1 id2 : ℕ) → IsOneWrite types log id1 id2 []
no_records types log id1 id2 = record { ids = λ u h. absurd h; news = λ u h. absurd h; own = λ u h. absurd h; mates = tt; single = λ u w h k l e. absurd h }

abbrev pub cut_where_live : ℕ → List Entry → Id → AType → Id → Option EdgeState → List EdgeUpdate
cut_where_live epoch log id1 atype id2 (Some (Live time payload stamp)) = (id1, atype, id2, Cut (next_stamp epoch log id1 atype id2)) ∷ []
cut_where_live epoch log id1 atype id2 (Some (Cut stamp)) = []
cut_where_live epoch log id1 atype id2 None = []

cut_record : (types : EdgeTypes) (epoch : ℕ) (log : List Entry) (id1 : Id) (atype : AType) (id2 : Id) (found : Option EdgeState)
    → IsOneWrite types log id1 id2 (cut_where_live epoch log id1 atype id2 found)
cut_record types epoch log id1 atype id2 (Some (Live time payload stamp)) =
    one_record types epoch log id1 atype id2 (Cut (next_stamp epoch log id1 atype id2)) refl
cut_record types epoch log id1 atype id2 (Some (Cut stamp)) = no_records types log id1 id2
cut_record types epoch log id1 atype id2 None = no_records types log id1 id2

abbrev pub move_where_live : ℕ → List Entry → Id → AType → Id → AType → Option EdgeState → List EdgeUpdate
move_where_live epoch log id1 atype id2 newtype (Some (Live time payload stamp)) = moved epoch log id1 atype id2 newtype time payload
move_where_live epoch log id1 atype id2 newtype (Some (Cut stamp)) = []
move_where_live epoch log id1 atype id2 newtype None = []

moved_records : (types : EdgeTypes) (epoch : ℕ) (log : List Entry) (id1 : Id) (atype : AType) (id2 : Id) (newtype : AType) (found : Option EdgeState)
    → InversesMatch types → atype ≢ newtype → (id1 ≡ id2 → types.inverse atype ≢ Some newtype)
    → IsOneWrite types log id1 id2 (move_where_live epoch log id1 atype id2 newtype found)
moved_records types epoch log id1 atype id2 newtype (Some (Live time payload stamp)) match other apart =
    two_records types epoch log id1 atype id2 newtype time payload match other apart
moved_records types epoch log id1 atype id2 newtype (Some (Cut stamp)) match other apart = no_records types log id1 id2
moved_records types epoch log id1 atype id2 newtype None match other apart = no_records types log id1 id2

abbrev pub touch_where_there : List Entry → Id → (Object → Change) → Option Object → List Touch
touch_where_there log id change (Some old) = touch_of log (Obj id) (change old) ∷ []
touch_where_there log id change None = []

found_object_stays : (types : EdgeTypes) (shard : ℕ) (log : List Entry) (kind : Kind) (origin : Origin) (id : Id) (change : Object → Change)
    (found : Option Object) (e : Entry)
    → IsSoundOf types shard log → IsNewOrigin log origin → shard_of id ≡ shard
    → next_entry log kind origin (touch_where_there log id change found ++ []) ≡ Some e → StaysSound types shard log e
found_object_stays types shard log kind origin id change None e sound new here h = absurd (cc)
found_object_stays types shard log kind origin id change (Some old) e sound new here h =
    subst (StaysSound types shard log) (given_entry log kind origin (touch_of log (Obj id) (change old) ∷ []) e h).1
    (object_stays types shard log kind origin id (change old) sound new here)

-- a new id lies on its shard
next_id-shard : (shard : ℕ) (log : List Entry) → count_by (λ e. is_addition e.kind) log + 1 < 2 ^ 48 → shard_of (next_id shard log) ≡ shard
next_id-shard shard log room = omega arith

forward_stays : (types : EdgeTypes) (epoch shard : ℕ) (log : List Entry) (origin : Origin) (write : Write) (e : Entry) → IsAdmitted types shard log origin write
    → forward_entry types epoch log origin write ≡ Some e → StaysSound types shard log e
forward_stays types epoch shard log origin (ObjAdd on otype payload) e may h =
    let here : shard_of (next_id on log) ≡ shard = next_id-shard on log may.here.1 ∙ may.here.0 in
    found_object_stays types shard log ObjAdded origin (next_id on log) (λ old. PutObject old)
    (Some (record { otype = otype; payload = payload })) e may.sound may.new here h
forward_stays types epoch shard log origin (ObjUpdate id payload) e may h =
    found_object_stays types shard log ObjUpdated origin id (λ old. PutObject (record old { payload = payload })) (object log id) e may.sound may.new may.here h
forward_stays types epoch shard log origin (ObjDelete id) e may h =
    found_object_stays types shard log ObjDeleted origin id (λ old. DropObject) (object log id) e may.sound may.new may.here h
forward_stays types epoch shard log origin (AssocAdd id1 atype id2 time payload) e may h =
    edges_stay types shard log AssocAdded origin id1 id2 _ e may.inverses may.sound may.new may.here
    (one_record types epoch log id1 atype id2 (Live time payload (next_stamp epoch log id1 atype id2)) refl) h
forward_stays types epoch shard log origin (AssocDelete id1 atype id2) e may h =
    edges_stay types shard log AssocDeleted origin id1 id2
    (cut_where_live epoch log id1 atype id2 (edge_record log id1 atype id2)) e may.inverses may.sound may.new may.here
    (cut_record types epoch log id1 atype id2 (edge_record log id1 atype id2)) h
forward_stays types epoch shard log origin (AssocChangeType id1 atype id2 newtype) e may h =
    edges_stay types shard log TypeChanged origin id1 id2
    (move_where_live epoch log id1 atype id2 newtype (edge_record log id1 atype id2)) e may.inverses may.sound may.new may.here
    (moved_records types epoch log id1 atype id2 newtype (edge_record log id1 atype id2) may.inverses may.changes.0 may.changes.1) h

pub forward_follows : (shard : ℕ) (log : List Entry) (origin : Origin) (write : Write) (e : Entry) → ForwardFollows shard log origin write e
forward_follows shard log origin write e = record { stays = λ types epoch may h. forward_stays types epoch shard log origin write e may h }

pub plain_add_follows : (log : List Entry) (origin : Origin) (id1 : Id) (atype : AType) (edge : Edge) → PlainAddFollows log origin id1 atype edge
plain_add_follows log origin id1 atype edge = record {
  entry_is = λ types epoch none. rw (none, when-none (is_near (id1, atype, edge.id2, next epoch))) refl;
  follows = λ epoch new. one_touch_follows log AssocAdded origin (edge_touch log (id1, atype, edge.id2, next epoch)) new
      (touch_follows log origin id1 atype edge.id2 (next epoch) (next_is_news epoch log id1 atype edge.id2 (next epoch) refl) (λ c. refl));
}
  where
    next : ℕ → EdgeState
    next epoch = Live edge.time edge.payload (next_stamp epoch log id1 atype edge.id2)
