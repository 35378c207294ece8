-- What a pass has seen grows, and so do those that go on.
use Rattle.std.proofs.Common.{◌≡◌, ℕ, zero, suc, ◌<◌, List, [], ◌∷◌, length, Some, None, Option, refl, ap, sym, subst, ◌∙◌, inl, inr, arith}
use Rattle.std.specs.Prelude.{IfSome, IsSomeAnd, slice_get, slice_index_or, slice_set}
use Rattle.std.proofs.lemmas.Bool.{cases_eq}
use Rattle.std.proofs.lemmas.Option.{get_or_from_slice_get, slice_get_cases}
use Rattle.core_model.proofs.Places.{set_get}
use Rattle.core_model.specs.Reads.{Wanted}
use Rattle.log_names.specs.Names.{IsOfLog, LogNames}
use Rattle.session_pass.specs.Floors.{FloorsRise}
use Rattle.session_pass.specs.Passes.{IsNoteOf, MeetsNote, SeenPass, after_meeting, learnt}
use Rattle.graph_model.specs.Log.{version}
use Rattle.shard_log.proofs.GrowthLemmas.{grows-self, grows-trans, legal-grows}
use Rattle.shard_log.specs.GrowthLaws.{IsLegalIn}
use Rattle.shard_log.specs.View.{Grows, View, longer_view}
use Rattle.tao_base.specs.EdgeTypes.{EdgeTypes}
use Rattle.tao_base.specs.Keys.{key_shard}
use Rattle.tao_base.specs.Queries.{query_shard}
use Rattle.tao_base.specs.declared.id.Key.{Key}
use Rattle.tao_base.specs.declared.query.Answer.{Answer}
use Rattle.shared_nodes.specs.shared_stores.Making.{Making}
use Rattle.locked_nodes.specs.Passes.{IsLegalSeen, IsPassOf, PassGoesOn, SeesNote}

-- ---- lists

pub there : {X : Type 0} (xs : List X) (i : ℕ) → i < length xs → (x : X) × (slice_get xs i ≡ Some x)
there xs i lt = elim (slice_get_cases xs i).1 [
  | inl found ↦ (found.0, found.2)
  | inr past ↦ absurd (omega (arith, past.0, lt))
]

len_set : {X : Type 0} (xs : List X) (k : ℕ) (x : X) → length (slice_set xs k x) ≡ length xs
len_set [] k x = refl
len_set (y ∷ ys) zero x = refl
len_set (y ∷ ys) (suc k) x = ap suc (len_set ys k x)

set_other : {X : Type 0} (xs : List X) (k n : ℕ) (x y : X) → (n ≡ k → ⊥) → slice_get xs n ≡ Some y → slice_get (slice_set xs k x) n ≡ Some y
set_other [] k n x y other at = at
set_other (z ∷ zs) zero zero x y other at = absurd (other refl)
set_other (z ∷ zs) zero (suc n) x y other at = at
set_other (z ∷ zs) (suc k) zero x y other at = at
set_other (z ∷ zs) (suc k) (suc n) x y other at = set_other zs k n x y (λ e. other (ap suc e)) at

pub some_and : {X : Type 0} (P : X → Type 0) (o : Option X) (x : X) → o ≡ Some x → P x → IsSomeAnd o P
some_and P o x at p = subst (λ q. IsSomeAnd q P) (sym at) p

pub some_parts : {X : Type 0} (P : X → Type 0) (o : Option X) → IsSomeAnd o P → (x : X) × (o ≡ Some x) × P x
some_parts P None h = absurd h
some_parts P (Some x) h = (x, refl, h)

if_parts : {X : Type 0} (P : X → Type 0) (o : Option X) (x : X) → o ≡ Some x → IfSome o P → P x
if_parts P o x at h = subst (λ q. IfSome q P) at h

pub one_some : {X : Type 0} (x y : X) → Some x ≡ Some y → x ≡ y
one_some x y h = cc

-- ---- notes

-- what was seen stays seen
pub stays_seen : (view : View) → Grows view view
stays_seen view = grows-self view

-- the pass has a note of the shard, of its log
pub note_there : (m : Making) (log : LogNames) (pass : SeenPass) (shard : ℕ) (note : View) → IsPassOf m log pass → shard < m.settings.shards
    → IsOfLog log shard note → IsNoteOf shard note pass.notes
note_there m log pass shard note is here of_log =
    let own = there pass.notes shard (omega (arith, is.long, here)) in
    some_and (λ (v : View). v.log ≡ note.log) (slice_get pass.notes shard) own.0 own.1 (is.notes shard own.0 own.1 ∙ sym of_log)

-- ---- a pass that met a note

pub record Saw (m : Making) (log : LogNames) (shard : ℕ) (note : View) (old new : SeenPass) : Type 0 where
  pub pass : IsPassOf m log new
  pub on : PassGoesOn old new
  pub sees : SeesNote shard note new.notes

met_seen : (log : LogNames) (notes : List View) (shard : ℕ) (longer : View) (k : ℕ) (v : View) → (own : View) → slice_get notes shard ≡ Some own
    → ((i : ℕ) (w : View) → slice_get notes i ≡ Some w → IsOfLog log i w) → longer.log ≡ own.log
    → slice_get (slice_set notes shard longer) k ≡ Some v → IsOfLog log k v
met_seen log notes shard longer k v own at all same is = elim (cases_eq k shard) [
  | inl here ↦ (
      let one : longer ≡ v = one_some longer v (sym (set_get notes shard own longer at)
      ∙ subst (λ n. slice_get (slice_set notes shard longer) n ≡ Some v) here is) in
      subst (λ (w : View). IsOfLog log k w) one (same ∙ subst (λ n. IsOfLog log n own) (sym here) (all shard own at)))
  | inr other ↦ (
      let was = slice_get_cases notes k in
      elim was.1 [
        | inl found ↦ (
            let one : found.0 ≡ v = one_some found.0 v (sym (set_other notes shard k longer found.0 other found.2) ∙ is) in
            subst (λ (w : View). IsOfLog log k w) one (all k found.0 found.2))
        | inr past ↦ absurd (
            let far = slice_get_cases (slice_set notes shard longer) k in
            elim far.1 [
              | inl found ↦ omega (arith, found.1, len_set notes shard longer, past.0)
              | inr none ↦ (let e : None ≡ Some v = sym none.1 ∙ is in absurd (cc))
            ])
      ])
]

pub saw : (m : Making) (log : LogNames) (shard : ℕ) (note : View) (old new : SeenPass) → IsPassOf m log old → shard < m.settings.shards → IsOfLog log shard note
    → new ≡ record old { notes = after_meeting shard note old.notes } → MeetsNote shard note old.notes → Saw m log shard note old new
saw m log shard note old new is here of_log same meets =
    let own = there old.notes shard (omega (arith, is.long, here)) in
    let longer : View = longer_view own.0 note in
    let index : slice_index_or old.notes shard note ≡ own.0 = get_or_from_slice_get old.notes shard own.0 note own.1 in
    let after : after_meeting shard note old.notes ≡ slice_set old.notes shard longer =
    ap (λ (v : View). slice_set old.notes shard (longer_view v note)) index in
    let both : Grows own.0 longer × Grows note longer =
    if_parts (λ (v : View). Grows v (longer_view v note) × Grows note (longer_view v note)) (slice_get old.notes shard) own.0 own.1 meets in
    let at : slice_get (slice_set old.notes shard longer) shard ≡ Some longer = set_get old.notes shard own.0 longer own.1 in
    let there_now : Saw m log shard note old (record old { notes = slice_set old.notes shard longer }) = record {
      pass = record {
        home = is.home;
        tier = is.tier;
        long = len_set old.notes shard longer ∙ is.long;
        notes = λ k v stands. met_seen log old.notes shard longer k v own.0 own.1 is.notes refl stands;
      };
      on = record {
        session = refl;
        region = refl;
        tier = refl;
        floors = record { rise = λ key. omega arith };
        notes = λ k from stands. elim (cases_eq k shard) [
          | inl e ↦ (
              let one : own.0 ≡ from = one_some own.0 from (sym own.1 ∙ subst (λ n. slice_get old.notes n ≡ Some from) e stands) in
              some_and (Grows from) (slice_get (slice_set old.notes shard longer) k) longer
              (subst (λ n. slice_get (slice_set old.notes shard longer) n ≡ Some longer) (sym e) at) (subst (λ (v : View). Grows v longer) one both.0))
          | inr other ↦
              some_and (Grows from) (slice_get (slice_set old.notes shard longer) k) from
              (set_other old.notes shard k longer from other stands) (grows-self from)
        ];
      };
      sees = some_and (Grows note) (slice_get (slice_set old.notes shard longer) shard) longer at both.1;
    } in
    subst (Saw m log shard note old) (ap (λ (ns : List View). record old { notes = ns }) (sym after) ∙ sym same) there_now

-- ---- passes that go on

pub goes_self : (pass : SeenPass) → PassGoesOn pass pass
goes_self pass = record {
  session = refl;
  region = refl;
  tier = refl;
  floors = record { rise = λ key. omega arith };
  notes = λ k from at. some_and (Grows from) (slice_get pass.notes k) from at (grows-self from);
}

pub goes_trans : (a b c : SeenPass) → PassGoesOn a b → PassGoesOn b c → PassGoesOn a c
goes_trans a b c p q = record {
  session = q.session ∙ p.session;
  region = q.region ∙ p.region;
  tier = q.tier ∙ p.tier;
  floors = record { rise = λ key. (let x = p.floors.rise key in let y = q.floors.rise key in omega arith) };
  notes = λ k from at.
      let mid = some_parts (Grows from) (slice_get b.notes k) (p.notes k from at) in
      let end = some_parts (Grows mid.0) (slice_get c.notes k) (q.notes k mid.0 mid.1) in
      some_and (Grows from) (slice_get c.notes k) end.0 end.1 (grows-trans from mid.0 end.0 mid.2 end.2);
}

-- what is legal in a note that was seen is legal in what the pass has seen
pub legal_seen : (types : EdgeTypes) (notes : List View) (note : View) (read : Wanted) (answer : Answer) (version : ℕ)
    → SeesNote (query_shard read.query) note notes → IsLegalIn types note read.query read.floor answer version → IsLegalSeen types notes read answer version
legal_seen types notes note read answer version sees legal =
    let now = some_parts (Grows note) (slice_get notes (query_shard read.query)) sees in
    some_and (λ (v : View). IsLegalIn types v read.query read.floor answer version) (slice_get notes (query_shard read.query)) now.0 now.1
    (legal-grows note now.0 types read.query read.floor answer version now.2 legal)

-- ---- a pass that learnt a version

-- the pass that has room or none is of its cluster all the same
pub room_apart : (m : Making) (log : LogNames) (old new : SeenPass) → IsPassOf m log old → new ≡ record old { spare = new.spare }
    → IsPassOf m log new × PassGoesOn old new × (new.floors ≡ old.floors)
room_apart m log old new is same =
    subst (λ (p : SeenPass). IsPassOf m log p × PassGoesOn old p × (p.floors ≡ old.floors)) (sym same) (
      record { home = is.home; tier = is.tier; long = is.long; notes = is.notes },
      record { session = refl; region = refl; tier = refl; floors = record { rise = λ key. omega arith }; notes = (goes_self old).notes },
      refl,
    )

pub learnt_seen : (m : Making) (log : LogNames) (key : Key) (version : ℕ) (note : View) (old new : SeenPass) → IsPassOf m log old
    → key_shard key < m.settings.shards → IsOfLog log (key_shard key) note → new ≡ learnt key version note new.spare old
    → FloorsRise old.floors new.floors → MeetsNote (key_shard key) note old.notes → Saw m log (key_shard key) note old new
learnt_seen m log key version note old new is here of_log same rise meets =
    let mid : SeenPass = record old { notes = after_meeting (key_shard key) note old.notes } in
    let met : Saw m log (key_shard key) note old mid = saw m log (key_shard key) note old mid is here of_log refl meets in
    let after : SeenPass = record old { floors = new.floors; notes = after_meeting (key_shard key) note old.notes; spare = new.spare } in
    let there_now : Saw m log (key_shard key) note old after = record {
      pass = record { home = is.home; tier = is.tier; long = met.pass.long; notes = met.pass.notes };
      on = record { session = refl; region = refl; tier = refl; floors = rise; notes = met.on.notes };
      sees = met.sees;
    } in
    let one : new ≡ after = same ∙ ap (λ fs. record old { floors = fs; notes = after_meeting (key_shard key) note old.notes; spare = new.spare })
    (ap (λ (p : SeenPass). p.floors) (sym same)) in
    subst (Saw m log (key_shard key) note old) (sym one) there_now

pub seen_floors : (old new : SeenPass) (notes : List View) → new ≡ record old { notes = notes } → new.floors ≡ old.floors
seen_floors old new notes same = ap (λ (p : SeenPass). p.floors) same
