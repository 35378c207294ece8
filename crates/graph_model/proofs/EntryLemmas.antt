-- What one more entry changes.
use Rattle.std.proofs.Common.{true, zero-add, ◌+◌, ◌≡◌, ◌≢◌, ℕ, cond, List, [], ◌∷◌, ◌++◌, append-nil, append_assoc, get_or, refl, sym, ap, ◌∙◌}
use Rattle.std.proofs.Common.{arith, zero, suc}
use Rattle.std.proofs.lemmas.List.{get_or_default}
use Rattle.std.proofs.lemmas.List.Elements.{All-contains, All-cons, All-nil, All-tail}
use Rattle.std.proofs.lemmas.List.Folds.{list_any_at}
use Rattle.std.specs.Prelude.{All, AllPairs, Contains, Some, fold, length}
use Rattle.graph_model.proofs.Sound.{slice_get-last}
use Rattle.tao_base.specs.declared.entry.Change.{Change}
use Rattle.tao_base.specs.declared.entry.Entry.{Entry}
use Rattle.tao_base.specs.declared.entry.Touch.{Touch}
use Rattle.tao_base.specs.declared.id.AType.{AType}
use Rattle.tao_base.specs.declared.id.Id.{Id}
use Rattle.tao_base.specs.declared.id.Key.{Key}
use Rattle.tao_base.specs.declared.id.Key.TheVariants.{Obj, List as Assocs}
use Rattle.graph_model.proofs.Keys.{same_key-apart, same_key-self}
use Rattle.graph_model.proofs.Lists.{list-snoc, record_in-snoc}
use Rattle.graph_model.proofs.Objects.{object_in-snoc}
use Rattle.graph_model.proofs.Versions.{changes_of-append, version-append, untouched}
use Rattle.graph_model.specs.Edges.{edge_list, edge_record, list_after, live_edges, newest_first, record_after, record_in}
use Rattle.graph_model.specs.EntryLaws.{AppliesTouch, AppliesTouches, ChangesByTouch, ListFollows, ObjectFollows, RecordFollows, VersionFollows}
use Rattle.tao_base.specs.Keys.{same_key}
use Rattle.graph_model.specs.Log.{entry_at, object, changes_at, changes_of, object_after, object_in, touches_key, version}

-- what changes by a step at a list's end changes by that step for each element that is added
pub fold_steps : {X Y : Type 0} (f : List X → Y) (step : Y → X → Y) → ((xs : List X) (x : X) → f (xs ++ x ∷ []) ≡ step (f xs) x)
    → (xs ys : List X) → f (xs ++ ys) ≡ fold step (f xs) ys
fold_steps f step more xs [] = ap f (append-nil xs)
fold_steps f step more xs (y ∷ ys) =
    ap f (sym (append_assoc xs (y ∷ []) ys)) ∙ fold_steps f step more (xs ++ y ∷ []) ys ∙ ap (λ z. fold step z ys) (more xs y)

pub list-append : (cs ds : List Change) → newest_first (live_edges (cs ++ ds)) ≡ fold (λ edges c. list_after c edges) (newest_first (live_edges cs)) ds
list-append = fold_steps (λ cs. newest_first (live_edges cs)) (λ edges c. list_after c edges) list-snoc

pub object_in-append : (cs ds : List Change) → object_in (cs ++ ds) ≡ fold (λ found c. object_after c found) (object_in cs) ds
object_in-append = fold_steps object_in (λ found c. object_after c found) object_in-snoc

pub record_in-append : (id2 : ℕ) (cs ds : List Change) → record_in (cs ++ ds) id2 ≡ fold (λ found c. record_after id2 c found) (record_in cs id2) ds
record_in-append id2 = fold_steps (λ cs. record_in cs id2) (λ found c. record_after id2 c found) (λ cs c. record_in-snoc cs c id2)

pub list_follows : (log : List Entry) (e : Entry) (id1 : Id) (atype : AType) → ListFollows log e id1 atype
list_follows log e id1 atype =
    rw (changes_of-append log (e ∷ []) (Assocs id1 atype)) (list-append (changes_of log (Assocs id1 atype)) (changes_of (e ∷ []) (Assocs id1 atype)))

pub object_follows : (log : List Entry) (e : Entry) (id : Id) → ObjectFollows log e id
object_follows log e id = rw (changes_of-append log (e ∷ []) (Obj id)) (object_in-append (changes_of log (Obj id)) (changes_of (e ∷ []) (Obj id)))

pub record_follows : (log : List Entry) (e : Entry) (id1 : Id) (atype : AType) (id2 : Id) → RecordFollows log e id1 atype id2
record_follows log e id1 atype id2 =
    rw (changes_of-append log (e ∷ []) (Assocs id1 atype)) (record_in-append id2 (changes_of log (Assocs id1 atype)) (changes_of (e ∷ []) (Assocs id1 atype)))

pub version_follows : (log : List Entry) (e : Entry) (k : Key) → VersionFollows log e k
version_follows log e k = version-append log (e ∷ []) k ∙ ap (λ n. version log k + n) (zero-add (cond (touches_key k e) 1 0))

-- a touch of another key does nothing at the key
elsewhere : (k : Key) (t : Touch) (ts : List Touch) → t.key ≢ k → changes_at k (t ∷ ts) ≡ changes_at k ts
elsewhere k t ts ne = rw (same_key-apart k t.key (λ q. ne (sym q))) refl

pub none_else : (k : Key) (ts : List Touch) → All (λ t. k ≢ t.key) ts → changes_at k ts ≡ []
none_else k [] h = refl
none_else k (t ∷ ts) h = elsewhere k t ts (λ q. h 0 t (omega arith) (sym q)) ∙ none_else k ts (All-tail (λ t. k ≢ t.key) t ts h)

pub one_change : (ts : List Touch) → AllPairs (λ s t. s.key ≢ t.key) ts → All (λ t. changes_at t.key ts ≡ t.change ∷ []) ts
one_change [] once = All-nil (λ t. changes_at t.key [] ≡ t.change ∷ [])
one_change (t ∷ ts) once =
    let apart : All (λ s. t.key ≢ s.key) ts = λ k d lt. once zero (suc k) d (omega arith) (omega arith) in
    let later : All (λ s. changes_at s.key ts ≡ s.change ∷ []) ts = one_change ts (λ i j d lt within. once (suc i) (suc j) d (omega arith) (omega arith)) in
    All-cons (λ s. changes_at s.key (t ∷ ts) ≡ s.change ∷ []) t ts
    (rw (same_key-self t.key) (ap (λ cs. t.change ∷ cs) (none_else t.key ts apart)))
    (λ k d lt. elsewhere (get_or ts k d).key t ts (apart k d lt) ∙ later k d lt)

pub changes_by_touch : (e : Entry) → ChangesByTouch e
changes_by_touch e = record {
  touched = λ once. rw (append-nil e.touches) (one_change e.touches once);
  untouched = λ k h. untouched e k h;
}

-- what the one change of a key makes of it
one_step : {Y : Type 0} (step : Y → Change → Y) (start : Y) (cs : List Change) (c : Change) → cs ≡ c ∷ [] → fold step start cs ≡ step start c
one_step step start cs c h = ap (fold step start) h

pub touched_by : (e : Entry) (t : Touch) → Contains e.touches t → touches_key t.key e ≡ true
touched_by e t at = list_any_at (λ (s : Touch). same_key t.key s.key) e.touches at.0 t at.1
    (ap (λ (s : Touch). same_key t.key s.key) at.2 ∙ same_key-self t.key)

pub applies_touch : (log : List Entry) (e : Entry) (t : Touch) → AllPairs (λ r s. r.key ≢ s.key) e.touches → Contains e.touches t → AppliesTouch log e t
applies_touch log e t once at =
    let one : changes_of (e ∷ []) t.key ≡ t.change ∷ [] = All-contains (λ s. changes_of (e ∷ []) s.key ≡ s.change ∷ []) e.touches t
    ((changes_by_touch e).touched once) at in
    record {
      version_is = version_follows log e t.key ∙ ap (λ b. version log t.key + cond b 1 0) (touched_by e t at);
      object_is = λ id key. object_follows log e id ∙ one_step (λ found c. object_after c found) (object log id) _ t.change
          (ap (changes_of (e ∷ [])) (sym key) ∙ one);
      record_is = λ id1 atype id2 key. record_follows log e id1 atype id2
          ∙ one_step (λ found c. record_after id2 c found) (edge_record log id1 atype id2) _ t.change (ap (changes_of (e ∷ [])) (sym key) ∙ one);
      list_is = λ id1 atype key. list_follows log e id1 atype ∙ one_step (λ edges c. list_after c edges) (edge_list log id1 atype) _ t.change
          (ap (changes_of (e ∷ [])) (sym key) ∙ one);
    }

pub applies_touches : (log : List Entry) (e : Entry) → AppliesTouches log e
applies_touches log e = record {
  each = λ once k d lt. applies_touch log e (get_or e.touches k d) once (k, lt, get_or_default e.touches k (get_or e.touches k d) d lt);
}

pub entry_at-last : (log : List Entry) (e : Entry) → entry_at (log ++ e ∷ []) (length log + 1) ≡ Some e
entry_at-last log e = ap (entry_at (log ++ e ∷ [])) (let next : length log + 1 ≡ suc (length log) = omega arith in next) ∙ slice_get-last log e
