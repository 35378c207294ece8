-- The records that an entry writes are those that it leaves of the edges.
use Rattle.std.proofs.Common.{◌≡◌, ◌≢◌, ℕ, List, [], ◌∷◌, ◌++◌, append-nil, refl, sym, ap, subst, ◌∙◌, inl, inr}
use Rattle.std.proofs.lemmas.Bool.{cases_Bool}
use Rattle.std.proofs.lemmas.List.Elements.{All-contains, filter-append, filter_map-append}
use Rattle.std.proofs.lemmas.List.Folds.{Any-from_list_any}
use Rattle.std.specs.List.{last_or}
use Rattle.std.specs.Option.{option_or}
use Rattle.std.specs.Prelude.{AllPairs, Contains, Option, Some, None, filter, filter_map, ◌==◌}
use Rattle.tao_base.specs.declared.edge.EdgeState.{EdgeState}
use Rattle.tao_base.specs.declared.edge.EdgeState.TheVariants.{Cut}
use Rattle.tao_base.specs.declared.entry.Change.{Change}
use Rattle.tao_base.specs.declared.entry.Change.TheVariants.{PutObject, DropObject, SetEdge, CutEdge}
use Rattle.tao_base.specs.declared.entry.Entry.{Entry}
use Rattle.tao_base.specs.declared.entry.Touch.{Touch}
use Rattle.tao_base.specs.declared.id.AType.{AType}
use Rattle.tao_base.specs.declared.id.Id.{Id}
use Rattle.tao_base.specs.declared.id.Key.{Key}
use Rattle.tao_base.specs.declared.id.Key.TheVariants.{Obj, List as Assocs}
use Rattle.graph_model.proofs.EntryLemmas.{one_change}
use Rattle.graph_model.proofs.Keys.{same_key-same}
use Rattle.graph_model.proofs.Lists.{eqb-self, eqb-same}
use Rattle.graph_model.proofs.Members.{contains_filter_map, contains_filter_map_parts}
use Rattle.graph_model.proofs.Versions.{changes_of-append, untouched}
use Rattle.graph_model.specs.Edges.{edge_record, is_at, record_in, state_left, state_of}
use Rattle.tao_base.specs.Keys.{same_key}
use Rattle.graph_model.specs.Log.{changes_at, changes_of, touches_key}
use Rattle.graph_model.specs.Soundness.{EdgeUpdate, update_at, updates_of}

-- the last of two lists is that of the second, or else of the first
last_or-append : {X : Type 0} (o : Option X) (xs ys : List X) → last_or o (xs ++ ys) ≡ option_or (last_or None ys) (last_or o xs)
last_or-append o [] [] = refl
last_or-append o [] (y ∷ ys) = from_some o y ys
  where
    from_some : {X : Type 0} (o : Option X) (y : X) (ys : List X) → last_or (Some y) ys ≡ option_or (last_or (Some y) ys) o
    from_some o y [] = refl
    from_some o y (z ∷ zs) = from_some o z zs
last_or-append o (x ∷ xs) ys = last_or-append (Some x) xs ys ∙ refl

-- the record after more changes is what they leave of the edge, or else the record before
pub record_in-or : (cs ds : List Change) (id2 : ℕ) → record_in (cs ++ ds) id2 ≡ option_or (record_in ds id2) (record_in cs id2)
record_in-or cs ds id2 =
    rw (filter-append (is_at id2) cs ds, filter_map-append state_left (filter (is_at id2) cs) (filter (is_at id2) ds))
    (last_or-append None (filter_map state_left (filter (is_at id2) cs)) (filter_map state_left (filter (is_at id2) ds)))

-- a record that a change writes at a key is what the change leaves of that edge
pub written : (k : Key) (c : Change) (u : EdgeUpdate) → update_at k c ≡ Some u → (k ≡ Assocs u.0 u.1) × (record_in (c ∷ []) u.2 ≡ Some u.3)
written (Obj id) c u h = absurd (cc)
written (Assocs id1 atype) (SetEdge e was) u h =
    let start : EdgeUpdate = (id1, atype, e.id2, state_of e) in
    let same : start ≡ u = cc in
    subst (λ (v : EdgeUpdate). (Assocs id1 atype ≡ Assocs v.0 v.1) × (record_in (SetEdge e was ∷ []) v.2 ≡ Some v.3)) same (refl, rw (eqb-self e.id2) refl)
written (Assocs id1 atype) (CutEdge id2 stamp was) u h =
    let start : EdgeUpdate = (id1, atype, id2, Cut stamp) in
    let same : start ≡ u = cc in
    subst (λ (v : EdgeUpdate). (Assocs id1 atype ≡ Assocs v.0 v.1) × (record_in (CutEdge id2 stamp was ∷ []) v.2 ≡ Some v.3)) same
    (refl, rw (eqb-self id2) refl)
written (Assocs id1 atype) (PutObject object) u h = absurd (cc)
written (Assocs id1 atype) DropObject u h = absurd (cc)

-- and the other way round
pub writes : (id1 : Id) (atype : AType) (id2 : Id) (s : EdgeState) (c : Change) → record_in (c ∷ []) id2 ≡ Some s
    → update_at (Assocs id1 atype) c ≡ Some (id1, atype, id2, s)
writes id1 atype id2 s (SetEdge e was) h = elim (cases_Bool (id2 == e.id2)) [
  | inl k ↦ (let left : Some (state_of e) ≡ Some s = rw k at h in
      let same : state_of e ≡ s = cc in
      ap (λ i. Some (id1, atype, i, state_of e)) (sym (eqb-same id2 e.id2 k)) ∙ ap (λ r. Some (id1, atype, id2, r)) same)
  | inr k ↦ (let none : None ≡ Some s = rw k at h in absurd (cc))
]
writes id1 atype id2 s (CutEdge other stamp was) h = elim (cases_Bool (id2 == other)) [
  | inl k ↦ (let left : Some (Cut stamp) ≡ Some s = rw k at h in
      let same : Cut stamp ≡ s = cc in
      ap (λ i. Some (id1, atype, i, Cut stamp)) (sym (eqb-same id2 other k)) ∙ ap (λ r. Some (id1, atype, id2, r)) same)
  | inr k ↦ (let none : None ≡ Some s = rw k at h in absurd (cc))
]
writes id1 atype id2 s (PutObject object) h = absurd (cc)
writes id1 atype id2 s DropObject h = absurd (cc)

-- an entry's records are what it leaves of the edges
pub changes_of-one : (e : Entry) (k : Key) → changes_of (e ∷ []) k ≡ changes_at k e.touches
changes_of-one e k = rw (append-nil e.touches) refl

pub record_of_update : (e : Entry) (id1 : Id) (atype : AType) (id2 : Id) (s : EdgeState) → AllPairs (λ r t. r.key ≢ t.key) e.touches
    → Contains (updates_of e) (id1, atype, id2, s) → edge_record (e ∷ []) id1 atype id2 ≡ Some s
record_of_update e id1 atype id2 s once h =
    let found = contains_filter_map_parts (λ (t : Touch). update_at t.key t.change) e.touches (id1, atype, id2, s) h in
    let t = found.0 in
    let what = written t.key t.change (id1, atype, id2, s) found.2 in
    let one : changes_at t.key e.touches ≡ t.change ∷ [] = All-contains (λ r. changes_at r.key e.touches ≡ r.change ∷ []) e.touches t
    (one_change e.touches once) found.1 in
    let at : changes_of (e ∷ []) (Assocs id1 atype) ≡ t.change ∷ [] = changes_of-one e (Assocs id1 atype) ∙ ap (λ k. changes_at k e.touches) (sym what.0)
    ∙ one in
    ap (λ cs. record_in cs id2) at ∙ what.1

pub update_of_record : (e : Entry) (id1 : Id) (atype : AType) (id2 : Id) (s : EdgeState) → AllPairs (λ r t. r.key ≢ t.key) e.touches
    → edge_record (e ∷ []) id1 atype id2 ≡ Some s → Contains (updates_of e) (id1, atype, id2, s)
update_of_record e id1 atype id2 s once h = elim (cases_Bool (touches_key (Assocs id1 atype) e)) [
  | inl touched ↦ (
      let found = Any-from_list_any (λ (t : Touch). same_key (Assocs id1 atype) t.key) e.touches touched in
      let t : Touch = found.1 in
      let at : Contains e.touches t = (found.0, found.2, found.3) in
      let key : Assocs id1 atype ≡ t.key = same_key-same (Assocs id1 atype) t.key found.4 in
      let one : changes_at t.key e.touches ≡ t.change ∷ [] = All-contains (λ r. changes_at r.key e.touches ≡ r.change ∷ []) e.touches t
      (one_change e.touches once) at in
      let here : changes_of (e ∷ []) (Assocs id1 atype) ≡ t.change ∷ [] = changes_of-one e (Assocs id1 atype) ∙ ap (λ k. changes_at k e.touches) key ∙ one in
      let left : record_in (t.change ∷ []) id2 ≡ Some s = ap (λ cs. record_in cs id2) (sym here) ∙ h in
      let update : update_at t.key t.change ≡ Some (id1, atype, id2, s) = ap (λ k. update_at k t.change) (sym key) ∙ writes id1 atype id2 s t.change left in
      contains_filter_map (λ (r : Touch). update_at r.key r.change) e.touches t (id1, atype, id2, s) at update)
  | inr untouched_ ↦ (
      let none : None ≡ Some s = ap (λ cs. record_in cs id2) (sym (untouched e (Assocs id1 atype) untouched_)) ∙ h in
      absurd (cc))
]

pub edge_record-append : (log : List Entry) (e : Entry) (id1 : Id) (atype : AType) (id2 : Id)
    → edge_record (log ++ e ∷ []) id1 atype id2 ≡ option_or (edge_record (e ∷ []) id1 atype id2) (edge_record log id1 atype id2)
edge_record-append log e id1 atype id2 =
    ap (λ cs. record_in cs id2) (changes_of-append log (e ∷ []) (Assocs id1 atype))
    ∙ record_in-or (changes_of log (Assocs id1 atype)) (changes_of (e ∷ []) (Assocs id1 atype)) id2
