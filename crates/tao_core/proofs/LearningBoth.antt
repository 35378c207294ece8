-- What a session learns of a write, of which it learns two entries: that it may, and that it is one of the core then.
use Rattle.std.proofs.Common.{◌≡◌, ◌<◌, ◌∙◌, ℕ, zero, suc, Bool, true, false, List, [], ◌∷◌, Option, Some, None, ap, refl, subst, sym, inl, inr, arith}
use Rattle.std.specs.Prelude.{◌==◌, ◌≤◌, All, IfSome, find, if◌then◌else◌, slice_get, slice_index_or}
use Rattle.std.proofs.lemmas.Bool.{cases_Bool, eq-eqb}
use Rattle.core_model.proofs.Places.{at_index, one_some, some_and}
use Rattle.core_model.specs.Pens.{AreFirstNotes, IsSeen, Pens, pens_of}
use Rattle.core_model.specs.Stores.{AreStoresOf, HaveMasterRegions}
use Rattle.core_model.specs.Writes.{IsSeenEntry}
use Rattle.core_plans.specs.declared.held.LearntEntries.{LearntEntries}
use Rattle.core_sessions.specs.Sessions.{HasRoom, HasRoomForBoth, Session, SessionLearns, is_open, session_at, sessions_of, with_changed}
use Rattle.core_steps.specs.declared.jobs.LearntEntry.{LearntEntry}
use Rattle.graph_model.proofs.Members.{if_some, if_some_at}
use Rattle.session_pass.specs.Passes.{IsNoteOf, SeenPass, after_meeting}
use Rattle.shard_log.specs.View.{View}
use Rattle.shard_tables.specs.StoreView.{Store}
use Rattle.tao_base.specs.declared.entry.Entry.{Entry}
use Rattle.tao_keeper.specs.Table.{Tables}
use Rattle.topology.specs.Config.{Settings}
use Rattle.tao_core.specs.Calls.{LearnsBoth, LearnsThrough}
use Rattle.tao_core.specs.Core.{IsSessionOf}
use Rattle.tao_core.specs.HeldCalls.{MayLearnBoth, MayLearnNow, MayLearnOne, MayLearnThrough}
use Rattle.tao_core.proofs.Learning.{learnt_sessions, same_number, set_open}
use Rattle.tao_core.proofs.Found.{session_is}

-- ---- one entry is learnt, and what may be learnt after it

-- room for both is room for one
pub room_of_both : (number : ℕ) (passes : List SeenPass) → HasRoomForBoth number passes → HasRoom number passes
room_of_both number passes room = by (find (λ p. p.session == number) passes) room
  where
    by : (o : Option SeenPass) → IfSome o (λ p. 16 ≤ p.spare) → IfSome o (λ p. 8 ≤ p.spare)
    by None room = tt
    by (Some p) room = omega (arith, room)

-- no note becomes one of another log
met_there : (notes : List View) (k : ℕ) (note : View) (n : ℕ) (other : View) → IsNoteOf n other notes → IsNoteOf n other (after_meeting k note notes)
met_there [] k note n other is = absurd is
met_there (x ∷ xs) zero note zero other is = is
met_there (x ∷ xs) zero note (suc n) other is = is
met_there (x ∷ xs) (suc k) note zero other is = is
met_there (x ∷ xs) (suc k) note (suc n) other is = met_there xs k note n other is

-- who was found and changed is found
changed_found : (number : ℕ) (from to : Session) (xs : List Session) → to.session ≡ from.session → session_at xs number ≡ Some from
    → session_at (with_changed to xs) number ≡ Some to
changed_found number from to [] same found = absurd (cc)
changed_found number from to (x ∷ xs) same found = elim (cases_Bool (x.session == number)) [
  | inl is ↦
      let one : x ≡ from = one_some x from (rw is at found) in
      let own : (x.session == to.session) ≡ true = eq-eqb x.session to.session (ap (λ (s : Session). s.session) one ∙ sym same) in
      let there : (to.session == number) ≡ true = ap (λ n. n == number) (same ∙ sym (ap (λ (s : Session). s.session) one)) ∙ is in
      rw own (rw there refl)
  | inr isnt ↦
      let kept : ((if x.session == to.session then to else x).session == number) ≡ false = ap (λ n. n == number) (same_number to x) ∙ isnt in
      rw kept (changed_found number from to xs same (rw isnt at found))
]

note_still : (number shard : ℕ) (entry : Entry) (note : View) (old new : List Session) (n : ℕ) (other : View)
    → SessionLearns number shard entry note old new → IfSome (session_at old number) (λ s. IsNoteOf n other s.notes)
    → IfSome (session_at new number) (λ s. IsNoteOf n other s.notes)
note_still number shard entry note old new n other learns is =
    let own = if_some_at (λ (s : Session). IsNoteOf n other s.notes) (session_at old number) learns.from is learns.found in
    let met = met_there learns.from.notes shard note n other own in
    let found = changed_found number learns.from learns.to old (ap (λ (s : Session). s.session) learns.learns.rest) learns.found in
    subst (λ o. IfSome o (λ (s : Session). IsNoteOf n other s.notes)) (sym (ap (λ xs. session_at xs number) learns.is ∙ found))
    (subst (λ (s : Session). IsNoteOf n other s.notes) (sym learns.learns.rest) met)

learnt_still : (number : ℕ) (told : Option LearntEntry) (old new : List Session) (t : LearntEntry) → LearnsThrough number told old new
    → MayLearnThrough t number old → MayLearnThrough t number new
learnt_still number None old new t learns may = subst (MayLearnThrough t number) (sym learns) may
learnt_still number (Some one) old new t learns may = record {
  note = note_still number one.shard one.entry one.note old new t.shard t.note learns may.note;
  stands = may.stands;
}

-- each session that is open stays so, and no other is open
pub learning_open : (number : ℕ) (told : Option LearntEntry) (old new : List Session) → LearnsThrough number told old new → (n : ℕ)
    → is_open new n ≡ is_open old n
learning_open number None old new learns n = ap (λ xs. is_open xs n) learns
learning_open number (Some t) old new learns n = set_open learns.to old new learns.is n

pub both_open : (number : ℕ) (told : LearntEntries) (old new : List Session) → LearnsBoth number told old new → (n : ℕ) → is_open new n ≡ is_open old n
both_open number told old new learns n =
    learning_open number told.other learns.between new learns.other n ∙ learning_open number told.here old learns.between learns.here n

-- ---- both are learnt

-- the second may be learnt after the first
module _ (number : ℕ) (told : LearntEntries) (passes : List SeenPass) (now : MayLearnNow number told passes) where
  pub learns_then : (between : List SeenPass) → LearnsThrough number told.here (sessions_of passes) (sessions_of between)
      → (HasRoomForBoth number passes → HasRoom number between) → IfSome told.other (λ t. MayLearnOne number t between)
  learns_then between learns more = if_some (λ t. MayLearnOne number t between) told.other (λ t is.
      let ready = if_some_at _ told.other t now.ready.1 is in record {
        author_is = learning_open number told.here (sessions_of passes) (sessions_of between) learns number ∙ ready.0;
        room = more ready.1;
        may = learnt_still number told.here (sessions_of passes) (sessions_of between) t learns
            (if_some_at (λ one. MayLearnThrough one number (sessions_of passes)) told.other t now.may.other is);
      })

any_some : {X : Type 0} (o : Option X) (P : Type 0) → P → IfSome o (λ _. P)
any_some None P h = tt
any_some (Some x) P h = h

-- a session that is open and has room may learn what it may know
pub now_ready : (number : ℕ) (told : LearntEntries) (passes : List SeenPass) → is_open (sessions_of passes) number ≡ true → HasRoomForBoth number passes
    → MayLearnBoth told number (sessions_of passes) → MayLearnNow number told passes
now_ready number told passes found room may = record {
  ready = (any_some told.here _ (found, room), any_some told.other _ (found, room));
  may = may;
}

-- ---- what is learnt was seen

-- the entry stands in what was seen of the log of a configured shard
abbrev pub IsLearntOf : Settings → List Store → LearntEntry → Type 0
IsLearntOf s stores t = (t.shard < s.shards) × IsSeenEntry (pens_of stores) t.shard t.note t.entry

pub record AreLearntOf (s : Settings) (stores : List Store) (told : LearntEntries) : Type 0 where
  pub here : IfSome told.here (IsLearntOf s stores)
  pub other : IfSome told.other (IsLearntOf s stores)

pub own_note : (pens : Pens) (count shard : ℕ) (note : View) (notes : List View) → shard < count → AreFirstNotes pens count notes → IsSeen pens shard note
    → IsNoteOf shard note notes
own_note pens count shard note notes here are seen =
    let long = are.long in
    let own : View = slice_index_or notes shard note in
    let at : slice_get notes shard ≡ Some own = at_index notes shard shard note refl (omega (arith, here, long)) in
    some_and (slice_get notes shard) own (λ o. o.log ≡ note.log) at (sym (are.seen shard own at).log_is ∙ seen.log_is)

module _ (tells : Bool) (s : Settings) (tables : Tables) (stores : List Store) where
  abbrev pub AreOurs : List Session → Type 0
  AreOurs sessions = All (IsSessionOf tells s tables (pens_of stores)) sessions

  -- ---- the session may learn it

  may_learn_one : (sessions : List Session) (number : ℕ) (t : LearntEntry) → AreOurs sessions → IsLearntOf s stores t → MayLearnThrough t number sessions
  may_learn_one sessions number t all is = record {
    note = if_some (λ (o : Session). IsNoteOf t.shard t.note o.notes) (session_at sessions number) (λ session found.
        own_note (pens_of stores) s.shards t.shard t.note session.notes is.0
        (session_is (IsSessionOf tells s tables (pens_of stores)) sessions number session all found).notes is.1.seen);
    stands = is.1.stands;
  }

  may_any : (sessions : List Session) (number : ℕ) (told : Option LearntEntry) → AreOurs sessions → IfSome told (IsLearntOf s stores)
      → IfSome told (λ t. MayLearnThrough t number sessions)
  may_any sessions number told all are = if_some (λ t. MayLearnThrough t number sessions) told
      (λ t is. may_learn_one sessions number t all (if_some_at (IsLearntOf s stores) told t are is))

  pub may_both : (sessions : List Session) (number : ℕ) (told : LearntEntries) → AreOurs sessions → AreLearntOf s stores told
      → MayLearnBoth told number sessions
  may_both sessions number told all are = record {
    here = may_any sessions number told.here all are.here;
    other = may_any sessions number told.other all are.other;
  }

  -- ---- it is one of the core then

  learnt_ours : (number : ℕ) (told : Option LearntEntry) (old new : List Session) → HaveMasterRegions s
      → AreStoresOf tells s tables stores → IfSome told (IsLearntOf s stores)
      → LearnsThrough number told old new → AreOurs old → AreOurs new
  learnt_ours number None old new masters kept are learns all = subst AreOurs (sym learns) all
  learnt_ours number (Some t) old new masters kept are learns all =
      learnt_sessions tells s tables stores masters kept number t.shard t.entry t.note are.0 are.1.seen are.1.stands old new learns all

  pub both_ours : (number : ℕ) (told : LearntEntries) (old new : List Session) → HaveMasterRegions s → AreStoresOf tells s tables stores
      → AreLearntOf s stores told
      → LearnsBoth number told old new → AreOurs old → AreOurs new
  both_ours number told old new masters kept are learns all =
      learnt_ours number told.other learns.between new masters kept are.other learns.other
      (learnt_ours number told.here old learns.between masters kept are.here learns.here all)
