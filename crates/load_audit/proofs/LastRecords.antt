-- The last records of a log are the records of its edges as they stand after it.
use Rattle.std.proofs.Common.{◌≡◌, ◌∙◌, Bool, true, false, List, [], ◌∷◌, ◌++◌, inl, inr, map, ap, subst, sym, refl, ◌==◌}
use Rattle.std.proofs.lemmas.Bool.{and_parts, cases_Bool}
use Rattle.std.proofs.lemmas.List.Elements.{filter_map-append}
use Rattle.std.specs.List.{cons_option, list_any}
use Rattle.std.specs.Option.{option_or}
use Rattle.std.specs.Prelude.{◌&&◌, ◌||◌, cond, filter, filter_map, flat_map, Option, Some, None, is_some}
use Rattle.graph_model.proofs.Keys.{same_key-same}
use Rattle.graph_model.proofs.Lists.{eqb-self, eqb-same}
use Rattle.graph_model.proofs.Members.{AllPairs-from_recursion, IsIn, PairsByRecursion, all_from_in, contains_from_in, in_from_contains, none_in}
use Rattle.graph_model.proofs.Updates.{record_in-or, writes, written}
use Rattle.graph_model.specs.Edges.{record_in}
use Rattle.graph_model.specs.Log.{changes_at}
use Rattle.graph_model.specs.Soundness.{EdgeUpdate, update_at, updates_of}
use Rattle.tao_base.specs.Keys.{same_key}
use Rattle.tao_base.specs.declared.edge.EdgeState.{EdgeState}
use Rattle.tao_base.specs.declared.entry.Change.{Change}
use Rattle.tao_base.specs.declared.entry.Entry.{Entry}
use Rattle.tao_base.specs.declared.entry.Touch.{Touch}
use Rattle.tao_base.specs.declared.id.AType.{AType}
use Rattle.tao_base.specs.declared.id.Id.{Id}
use Rattle.tao_base.specs.declared.id.Key.TheVariants.{List as Assocs}
use Rattle.write_model.specs.Writes.{same_edge}
use Rattle.load_audit.specs.LiveEdges.{last_records, records_of}
use Rattle.load_audit.specs.LiveLaws.{LastRecordLaws}

-- the record that a touch writes
abbrev written_by : Touch → Option EdgeUpdate
written_by t = update_at t.key t.change

-- the records that touches write, in order
abbrev written_in : List Touch → List EdgeUpdate
written_in touches = filter_map written_by touches

-- the record that touches leave of an edge
abbrev left_at : EdgeUpdate → List Touch → Option EdgeState
left_at u touches = record_in (changes_at (Assocs u.0 u.1) touches) u.2

-- ---- what two records of one edge are

same_parts : (u v : EdgeUpdate) → same_edge u v ≡ true → (u.0 ≡ v.0) × (u.1 ≡ v.1) × (u.2 ≡ v.2)
same_parts u v is =
    let first = and_parts (u.0 == v.0 && u.1.0 == v.1.0) (u.2 == v.2) is in
    let second = and_parts (u.0 == v.0) (u.1.0 == v.1.0) first.0 in
    let number : u.1.0 ≡ v.1.0 = eqb-same u.1.0 v.1.0 second.1 in
    let atype : u.1 ≡ v.1 = ap (λ n. let a : AType = record { 0 = n } in a) number in
    (eqb-same u.0 v.0 second.0, atype, eqb-same u.2 v.2 first.1)

same_self : (u : EdgeUpdate) (state : EdgeState) → same_edge u (u.0, u.1, u.2, state) ≡ true
same_self u state = rw (eqb-self u.0, eqb-self u.1.0, eqb-self u.2) refl

-- ---- one touch

same_list : (id1 : Id) (atype : AType) → same_key (Assocs id1 atype) (Assocs id1 atype) ≡ true
same_list id1 atype = rw (eqb-self id1, eqb-self atype.0) refl

-- what one touch leaves of an edge is what it writes of it
left_by_one : (u : EdgeUpdate) (t : Touch) (state : EdgeState) → left_at u (t ∷ []) ≡ Some state → written_by t ≡ Some (u.0, u.1, u.2, state)
left_by_one u t state is = elim (cases_Bool (same_key (Assocs u.0 u.1) t.key)) [
  | inl here ↦ (let left : record_in (t.change ∷ []) u.2 ≡ Some state = rw here at is in
      let key : Assocs u.0 u.1 ≡ t.key = same_key-same (Assocs u.0 u.1) t.key here in
      subst (λ k. update_at k t.change ≡ Some (u.0, u.1, u.2, state)) key (writes u.0 u.1 u.2 state t.change left))
  | inr other ↦ (let none : None ≡ Some state = rw other at is in absurd (cc))
]

writes_one : (u : EdgeUpdate) (t : Touch) → written_by t ≡ Some u → left_at u (t ∷ []) ≡ Some u.3
writes_one u t is =
    let w = written t.key t.change u is in
    let here : same_key (Assocs u.0 u.1) t.key ≡ true = subst (λ k. same_key (Assocs u.0 u.1) k ≡ true) (sym w.0) (same_list u.0 u.1) in
    rw here w.1

-- ---- one touch before others

head_of : (b : Bool) (t : Touch) (ts : List Touch)
    → map (λ (t : Touch). t.change) (cond b (t ∷ ts) ts) ≡ map (λ (t : Touch). t.change) (cond b (t ∷ []) []) ++ map (λ (t : Touch). t.change) ts
head_of true t ts = refl
head_of false t ts = refl

left_at-cons : (u : EdgeUpdate) (t : Touch) (ts : List Touch) → left_at u (t ∷ ts) ≡ option_or (left_at u ts) (left_at u (t ∷ []))
left_at-cons u t ts =
    ap (λ (cs : List Change). record_in cs u.2) (head_of (same_key (Assocs u.0 u.1) t.key) t (filter (λ (t : Touch). same_key (Assocs u.0 u.1) t.key) ts))
    ∙ record_in-or (changes_at (Assocs u.0 u.1) (t ∷ [])) (changes_at (Assocs u.0 u.1) ts) u.2

or_none : (found : Option EdgeState) → option_or found None ≡ found
or_none None = refl
or_none (Some state) = refl

-- a touch that writes nothing leaves what later ones leave
none_left : (u : EdgeUpdate) (t : Touch) → written_by t ≡ None → left_at u (t ∷ []) ≡ None
none_left u t none = by (left_at u (t ∷ [])) refl
  where
    by : (found : Option EdgeState) → left_at u (t ∷ []) ≡ found → found ≡ None
    by None is = refl
    by (Some state) is = let some = left_by_one u t state is in absurd (cc)

passed : (u : EdgeUpdate) (t : Touch) (ts : List Touch) → written_by t ≡ None → left_at u (t ∷ ts) ≡ left_at u ts
passed u t ts none = left_at-cons u t ts ∙ ap (option_or (left_at u ts)) (none_left u t none) ∙ or_none (left_at u ts)

-- ---- whether an edge has a record

one_has : (u v : EdgeUpdate) (t : Touch) → written_by t ≡ Some v → is_some (left_at u (t ∷ [])) ≡ same_edge u v
one_has u v t is = by (left_at u (t ∷ [])) refl
  where
    none : left_at u (t ∷ []) ≡ None → (b : Bool) → same_edge u v ≡ b → false ≡ b
    none left false differ = refl
    none left true same =
        let parts = same_parts u v same in
        let here : written_by t ≡ Some (u.0, u.1, u.2, v.3) =
        is ∙ ap (λ (w : EdgeUpdate). Some w)
        (ap (λ (id : Id). let w : EdgeUpdate = (id, v.1, v.2, v.3) in w) (sym parts.0)
        ∙ ap (λ (atype : AType). let w : EdgeUpdate = (u.0, atype, v.2, v.3) in w) (sym parts.1)
        ∙ ap (λ (id : Id). let w : EdgeUpdate = (u.0, u.1, id, v.3) in w) (sym parts.2)) in
        let some = writes_one (u.0, u.1, u.2, v.3) t here in absurd (cc)

    by : (found : Option EdgeState) → left_at u (t ∷ []) ≡ found → is_some found ≡ same_edge u v
    by None left = none left (same_edge u v) refl
    by (Some state) left =
        let same : (u.0, u.1, u.2, state) ≡ v = (let some = left_by_one u t state left in cc) in
        subst (λ (w : EdgeUpdate). true ≡ same_edge u w) same (sym (same_self u state))

some_or : (found first : Option EdgeState) → is_some (option_or found first) ≡ (is_some first || is_some found)
some_or None None = refl
some_or None (Some state) = refl
some_or (Some state) None = refl
some_or (Some state) (Some other) = refl

has_record : (u : EdgeUpdate) (ts : List Touch) → list_any (same_edge u) (written_in ts) ≡ is_some (left_at u ts)
has_record u [] = refl
has_record u (t ∷ ts) = by (has_record u ts) (written_by t) refl
  where
    by : list_any (same_edge u) (written_in ts) ≡ is_some (left_at u ts) → (found : Option EdgeUpdate) → written_by t ≡ found
        → list_any (same_edge u) (cons_option found (written_in ts)) ≡ is_some (left_at u (t ∷ ts))
    by before None none = before ∙ ap is_some (sym (passed u t ts none))
    by before (Some v) is =
        ap (λ b. same_edge u v || b) before ∙ ap (λ b. b || is_some (left_at u ts)) (sym (one_has u v t is))
        ∙ sym (some_or (left_at u ts) (left_at u (t ∷ []))) ∙ ap is_some (sym (left_at-cons u t ts))

-- ---- the last records

-- a record that later touches leave stays
later_stays : (u : EdgeUpdate) (t : Touch) (ts : List Touch) → left_at u ts ≡ Some u.3 → left_at u (t ∷ ts) ≡ Some u.3
later_stays u t ts is = left_at-cons u t ts ∙ ap (λ found. option_or found (left_at u (t ∷ []))) is

no_record : (v : EdgeUpdate) (ts : List Touch) → list_any (same_edge v) (written_in ts) ≡ false → left_at v ts ≡ None
no_record v ts none = by (left_at v ts) (sym (has_record v ts) ∙ none)
  where
    by : (found : Option EdgeState) → is_some found ≡ false → found ≡ None
    by None is = refl
    by (Some state) is = absurd (cc)

stand : (u : EdgeUpdate) (ts : List Touch) → IsIn u (last_records (written_in ts)) → left_at u ts ≡ Some u.3
stand u [] in' = absurd in'
stand u (t ∷ ts) in' = by (stand u ts) (written_by t) refl in'
  where
    first : (v : EdgeUpdate) → written_by t ≡ Some v → list_any (same_edge v) (written_in ts) ≡ false → v ≡ u → left_at u (t ∷ ts) ≡ Some u.3
    first v is none same =
        subst (λ (w : EdgeUpdate). left_at w (t ∷ ts) ≡ Some w.3) same
        (left_at-cons v t ts ∙ ap (λ found. option_or found (left_at v (t ∷ []))) (no_record v ts none) ∙ writes_one v t is)

    kept : (IsIn u (last_records (written_in ts)) → left_at u ts ≡ Some u.3) → (v : EdgeUpdate) → written_by t ≡ Some v → (b : Bool) → list_any (same_edge v) (written_in ts) ≡ b
        → IsIn u (cond b (last_records (written_in ts)) (v ∷ last_records (written_in ts))) → left_at u (t ∷ ts) ≡ Some u.3
    kept before v is true some here = later_stays u t ts (before here)
    kept before v is false none (inl same) = first v is none same
    kept before v is false none (inr here) = later_stays u t ts (before here)

    by : (IsIn u (last_records (written_in ts)) → left_at u ts ≡ Some u.3) → (found : Option EdgeUpdate) → written_by t ≡ found
        → IsIn u (last_records (cons_option found (written_in ts))) → left_at u (t ∷ ts) ≡ Some u.3
    by before None none here = passed u t ts none ∙ before here
    by before (Some v) is here = kept before v is (list_any (same_edge v) (written_in ts)) refl here

all : (u : EdgeUpdate) (ts : List Touch) → left_at u ts ≡ Some u.3 → IsIn u (last_records (written_in ts))
all u [] is = absurd (cc)
all u (t ∷ ts) is = by (all u ts) (written_by t) refl
  where
    behind : (v : EdgeUpdate) (b : Bool) → IsIn u (last_records (written_in ts))
        → IsIn u (cond b (last_records (written_in ts)) (v ∷ last_records (written_in ts)))
    behind v true here = here
    behind v false here = inr here

    own : (v : EdgeUpdate) → written_by t ≡ Some v → left_at u ts ≡ None → left_at u (t ∷ []) ≡ Some u.3
        → IsIn u (cond (list_any (same_edge v) (written_in ts)) (last_records (written_in ts)) (v ∷ last_records (written_in ts)))
    own v of none left =
        let same : u ≡ v = (let some = left_by_one u t u.3 left in cc) in
        let no_later : list_any (same_edge v) (written_in ts) ≡ false =
        subst (λ (w : EdgeUpdate). list_any (same_edge w) (written_in ts) ≡ false) same (has_record u ts ∙ ap is_some none) in
        rw no_later (inl (sym same))

    at_later : (left_at u ts ≡ Some u.3 → IsIn u (last_records (written_in ts))) → (v : EdgeUpdate) → written_by t ≡ Some v → (found : Option EdgeState) → left_at u ts ≡ found
        → option_or found (left_at u (t ∷ [])) ≡ Some u.3
        → IsIn u (cond (list_any (same_edge v) (written_in ts)) (last_records (written_in ts)) (v ∷ last_records (written_in ts)))
    at_later before v of None none left = own v of none left
    at_later before v of (Some state) later left = behind v (list_any (same_edge v) (written_in ts)) (before (later ∙ left))

    by : (left_at u ts ≡ Some u.3 → IsIn u (last_records (written_in ts))) → (found : Option EdgeUpdate) → written_by t ≡ found
        → IsIn u (last_records (cons_option found (written_in ts)))
    by before None none = before (sym (passed u t ts none) ∙ is)
    by before (Some v) of = at_later before v of (left_at u ts) refl (sym (left_at-cons u t ts) ∙ is)

-- a last record is a record
pub in_all : (u : EdgeUpdate) (us : List EdgeUpdate) → IsIn u (last_records us) → IsIn u us
in_all u [] here = absurd here
in_all u (v ∷ later) here = by (in_all u later) (list_any (same_edge v) later) here
  where
    by : (IsIn u (last_records later) → IsIn u later) → (b : Bool) → IsIn u (cond b (last_records later) (v ∷ last_records later)) → IsIn u (v ∷ later)
    by before true h = inr (before h)
    by before false (inl same) = inl same
    by before false (inr h) = inr (before h)

once : (us : List EdgeUpdate) → PairsByRecursion (λ u v. same_edge u v ≡ false) (last_records us)
once [] = tt
once (u ∷ later) = by (once later) (list_any (same_edge u) later) refl
  where
    by : PairsByRecursion (λ u v. same_edge u v ≡ false) (last_records later) → (b : Bool) → list_any (same_edge u) later ≡ b
        → PairsByRecursion (λ u v. same_edge u v ≡ false) (cond b (last_records later) (u ∷ last_records later))
    by before true some = before
    by before false none =
        (all_from_in (λ v. same_edge u v ≡ false) (last_records later) (λ v here. none_in (same_edge u) later v none (in_all v later here)), before)

-- ---- a log

records_are : (log : List Entry) → records_of log ≡ written_in (flat_map (λ (e : Entry). e.touches) log)
records_are [] = refl
records_are (e ∷ log) =
    ap (λ us. updates_of e ++ us) (records_are log) ∙ sym (filter_map-append written_by e.touches (flat_map (λ (e : Entry). e.touches) log))

pub last_record_laws : LastRecordLaws
last_record_laws = record {
  stand = λ log u has.
      stand u (flat_map (λ (e : Entry). e.touches) log)
      (subst (λ us. IsIn u (last_records us)) (records_are log) (in_from_contains (last_records (records_of log)) u has));
  all = λ log u is.
      contains_from_in (last_records (records_of log)) u
      (subst (λ us. IsIn u (last_records us)) (sym (records_are log)) (all u (flat_map (λ (e : Entry). e.touches) log) is));
  once = λ log. AllPairs-from_recursion (λ u v. same_edge u v ≡ false) (last_records (records_of log)) (once (records_of log));
}
