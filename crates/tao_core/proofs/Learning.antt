-- What a session learns, of an entry or of a version: each key has come to its floors still, and its notes have seen beginnings of the logs.
use Rattle.std.proofs.Common.{◌≡◌, ℕ, zero, suc, ◌<◌, ◌≤◌, Bool, true, List, [], ◌∷◌, Some, length, max}
use Rattle.std.proofs.Common.{refl, ap, sym, subst, ◌∙◌, inl, inr, arith}
use Rattle.std.specs.Prelude.{◌==◌, ◌||◌, All, if◌then◌else◌, slice_get, slice_index_or, slice_set}
use Rattle.std.specs.List.{AllByRecursion}
use Rattle.std.proofs.lemmas.Bool.{cases_Bool, cases_eq, eqb-true, false≢true}
use Rattle.std.proofs.lemmas.List.Elements.{All-from_recursion, recursion_from_All}
use Rattle.core_model.proofs.Places.{at_index, get_set}
use Rattle.core_model.specs.Pens.{AreFirstNotes, IsSeen, Pens, pens_of}
use Rattle.core_model.proofs.KeptStores.{sound_logs}
use Rattle.core_model.specs.Stores.{AreStoresOf, HaveMasterRegions, master_log}
use Rattle.core_sessions.specs.Sessions.{LearnsVersionWith, LearnsWith, Session, SessionLearns, SessionLearnsVersion, is_open, session_at, with_changed}
use Rattle.graph_model.specs.Log.{entry_at, version}
use Rattle.session_pass.specs.Floors.{floor_at, learnt_touches, version_learnt}
use Rattle.session_pass.specs.Passes.{after_meeting}
use Rattle.shard_log.proofs.GrowthLemmas.{entry_stays, seen-meets}
use Rattle.shard_log.specs.View.{View, longer_view}
use Rattle.shard_tables.specs.StoreView.{Store}
use Rattle.shard_tables.specs.Written.{StandsIn}
use Rattle.tao_base.proofs.SameKeys.{same_key-Decides}
use Rattle.tao_base.specs.Keys.{key_shard, same_key}
use Rattle.tao_base.specs.declared.entry.Entry.{Entry}
use Rattle.tao_base.specs.declared.id.Key.{Key}
use Rattle.tao_keeper.specs.Table.{Tables}
use Rattle.topology.specs.Config.{Settings}
use Rattle.tao_core.specs.Core.{IsSessionOf}
use Rattle.core_steps.proofs.ReadLemmas.{log_is}
use Rattle.tao_core.proofs.Found.{session_is}
use Rattle.session_pass.proofs.EntryLemmas.{learnt_reached}

-- ---- sessions by their numbers

changed_so : (P : Session → Type 0) (to : Session) (xs : List Session) → P to → AllByRecursion P xs → AllByRecursion P (with_changed to xs)
changed_so P to [] one all = tt
changed_so P to (x ∷ xs) one all =
    (elim (cases_Bool (x.session == to.session)) [ inl e ↦ rw e one | inr e ↦ rw e all.0 ], changed_so P to xs one all.1)

pub same_number : (to x : Session) → (if x.session == to.session then to else x).session ≡ x.session
same_number to x = elim (cases_Bool (x.session == to.session)) [ inl e ↦ rw e (sym (eqb-true x.session to.session e)) | inr e ↦ rw e refl ]

changed_open : (to : Session) (xs : List Session) (n : ℕ) → is_open (with_changed to xs) n ≡ is_open xs n
changed_open to [] n = refl
changed_open to (x ∷ xs) n =
    ap (λ m. (m == n) || is_open (with_changed to xs) n) (same_number to x) ∙ ap (λ b. (x.session == n) || b) (changed_open to xs n)

-- who is open is open still, and no other
pub set_open : (to : Session) (old new : List Session) → new ≡ with_changed to old → (n : ℕ) → is_open new n ≡ is_open old n
set_open to old new is n = ap (λ xs. is_open xs n) is ∙ changed_open to old n

-- ---- one session learns

set_long : (xs : List View) (k : ℕ) (x : View) → length (slice_set xs k x) ≡ length xs
set_long [] k x = refl
set_long (y ∷ ys) zero x = refl
set_long (y ∷ ys) (suc k) x = ap suc (set_long ys k x)

within : (was more most now : ℕ) → now ≡ max was more → was ≤ most → more ≤ most → now ≤ most
within was more most now is one two = omega (arith, is, one, two)

-- its notes, after one met what was seen of its shard's log
pub met_notes : (pens : Pens) (count shard : ℕ) (note : View) (notes : List View) → shard < count → IsSeen pens shard note → AreFirstNotes pens count notes
    → AreFirstNotes pens count (after_meeting shard note notes)
met_notes pens count shard note notes here seen are =
    let long = are.long in
    let own : View = slice_index_or notes shard note in
    let at : slice_get notes shard ≡ Some own = at_index notes shard shard note refl (omega (arith, here, long)) in
    record {
      long = set_long notes shard (longer_view own note) ∙ are.long;
      seen = λ k v h. elim (get_set notes shard (longer_view own note) k v h) [
        | inl e ↦ are.seen k v e.1
        | inr e ↦ subst (λ n. IsSeen pens n v) (sym e.0)
            (subst (IsSeen pens shard) e.1 (seen-meets own note (pens shard) (are.seen shard own at) seen))
      ];
    }

module _ (tells : Bool) (s : Settings) (tables : Tables) (stores : List Store) (masters : HaveMasterRegions s)
    (are : AreStoresOf tells s tables stores) where
  abbrev IsOne : Session → Type 0
  IsOne = IsSessionOf tells s tables (pens_of stores)

  -- the key's version in the log of its shard
  abbrev version_of : Key → ℕ
  version_of key = version (master_log s tables (key_shard key)) key

  -- with a note of the shard's log, it stays one of the core where each key has come to its floors
  with_note : (shard : ℕ) (note : View) (old new : Session) → shard < s.shards → IsSeen (pens_of stores) shard note
      → new ≡ record old { floors = new.floors; notes = after_meeting shard note old.notes }
      → (tells ≡ true → (key : Key) → floor_at new.floors key ≤ version_of key) → IsOne old → IsOne new
  with_note shard note old new here seen rest floors is = record {
    region = subst (λ (x : Session). x.region < length s.regions) (sym rest) is.region;
    notes = subst (λ (x : Session). AreFirstNotes (pens_of stores) s.shards x.notes) (sym rest)
        (met_notes (pens_of stores) s.shards shard note old.notes here seen is.notes);
    floors = floors;
  }

  -- so are all sessions, where one of them became another
  set_sessions : (number : ℕ) (from to : Session) (old new : List Session) → session_at old number ≡ Some from → new ≡ with_changed to old
      → (IsOne from → IsOne to) → All IsOne old → All IsOne new
  set_sessions number from to old new found is goes all =
      let each = recursion_from_All IsOne old all in
      subst (All IsOne) (sym is) (All-from_recursion IsOne (with_changed to old)
      (changed_so IsOne to old (goes (session_is IsOne old number from all found)) each))

  -- ---- an entry

  module _ (number shard : ℕ) (entry : Entry) (note : View) (here : shard < s.shards) (seen : IsSeen (pens_of stores) shard note)
      (stands : StandsIn note entry) where
    learnt_now : (key : Key) → tells ≡ true → version_learnt key (learnt_touches entry) ≤ version (master_log s tables shard) key
    learnt_now key told =
        let log = log_is tells s tables stores shard masters are here in
        let own : note.log.told ≡ true = ap (λ l. l.told) (sym seen.log_is) ∙ log.told_is ∙ told in
        let at = entry_stays note (pens_of stores shard) entry.position entry seen (stands own) in
        learnt_reached (master_log s tables shard) entry.position entry key (sound_logs s tables (are.kept told) shard here).sound
        (subst (λ es. entry_at es entry.position ≡ Some entry) (log.entries_is told) at)

    floor_now : (old new : Session) (key : Key) → LearnsWith shard entry note old new → IsOne old → tells ≡ true → floor_at new.floors key ≤ version_of key
    floor_now old new key learns is told = elim (cases_eq (key_shard key) shard) [
      | inl on ↦ within (floor_at old.floors key) (version_learnt key (learnt_touches entry)) (version_of key)
          (floor_at new.floors key) (learns.floors.here key on) (is.floors told key)
          (subst (λ n. version_learnt key (learnt_touches entry) ≤ version (master_log s tables n) key) (sym on) (learnt_now key told))
      | inr off ↦ subst (λ n. n ≤ version_of key) (sym (learns.floors.others key off)) (is.floors told key)
    ]

    pub learnt_sessions : (old new : List Session) → SessionLearns number shard entry note old new → All IsOne old → All IsOne new
    learnt_sessions old new learns =
        set_sessions number learns.from learns.to old new learns.found learns.is (λ is.
        with_note shard note learns.from learns.to here seen learns.learns.rest
        (λ told key. floor_now learns.from learns.to key learns.learns is told) is)

  -- ---- a version

  module _ (number : ℕ) (key : Key) (at : ℕ) (note : View) (here : key_shard key < s.shards) (seen : IsSeen (pens_of stores) (key_shard key) note)
      (come : tells ≡ true → at ≤ version_of key) where
    version_floor : (old new : Session) (other : Key) → LearnsVersionWith key at note old new → IsOne old → tells ≡ true
        → floor_at new.floors other ≤ version_of other
    version_floor old new other learns is told = elim (cases_Bool (same_key other key)) [
      | inl same ↦ subst (λ k. floor_at new.floors k ≤ version_of k) (sym ((same_key-Decides other key).0 same))
          (within (floor_at old.floors key) at (version_of key) (floor_at new.floors key) learns.floors.here (is.floors told key) (come told))
      | inr differs ↦ subst (λ n. n ≤ version_of other)
          (sym (learns.floors.others other (λ same. false≢true (sym differs ∙ (same_key-Decides other key).1 same)))) (is.floors told other)
    ]

    pub version_sessions : (old new : List Session) → SessionLearnsVersion number key at note old new → All IsOne old → All IsOne new
    version_sessions old new learns =
        set_sessions number learns.from learns.to old new learns.found learns.is (λ is.
        with_note (key_shard key) note learns.from learns.to here seen learns.learns.rest
        (λ told other. version_floor learns.from learns.to other learns.learns is told) is)
