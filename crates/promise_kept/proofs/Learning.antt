-- What a session learns of a write, and sees by a read, as its floors and the plain state have it.
use Rattle.std.proofs.Common.{arith, ◌≡◌, ◌≢◌, ◌<◌, ◌∙◌, ◌++◌, ◌∷◌, [], ℕ, Bool, true, false, List, Option, Some, None, append-nil, append_assoc, refl, sym}
use Rattle.std.proofs.Common.{ap, subst, inl, inr, if◌then◌else◌}
use Rattle.std.proofs.lemmas.Bool.{cases_Bool, cases_eq, eq-eqb, eqb-true, ne_eqb}
use Rattle.std.proofs.lemmas.List.Elements.{Contains-append_left, Contains-append_right}
use Rattle.std.specs.Option.{option_map, option_map_or}
use Rattle.std.specs.Prelude.{◌==◌, Contains, IfSome, find, map}
use Rattle.core_model.proofs.Places.{one_some}
use Rattle.core_model.proofs.KeptStores.{sound_logs}
use Rattle.core_model.specs.Fleet.{Fleet}
use Rattle.core_model.specs.Jobs.{far_shard}
use Rattle.core_model.specs.Pens.{pens_of}
use Rattle.core_model.specs.Stores.{AreStoresOf, HaveMasterRegions, master_log}
use Rattle.core_model.specs.Writes.{IsSeenEntry}
use Rattle.core_plans.specs.HeldWrites.{IsWriteUnderWay}
use Rattle.core_plans.specs.declared.held.LearntEntries.{LearntEntries}
use Rattle.core_sessions.specs.Sessions.{Session, SessionLearns, SessionLearnsVersion, session_at, with_changed}
use Rattle.core_steps.proofs.ReadLemmas.{log_is}
use Rattle.core_steps.proofs.WriteLemmas.{stands_in_log}
use Rattle.core_steps.specs.OtherEnds.{StandsThere, learnt_far}
use Rattle.core_steps.specs.declared.jobs.LearntEntry.{LearntEntry}
use Rattle.graph_model.specs.Log.{entry_at}
use Rattle.plain_promise.specs.Promise.{SeenVersion}
use Rattle.promise_kept.proofs.Entries.{HasFewTouches, entry_few}
use Rattle.promise_kept.proofs.Floors.{floors_learn, floors_see}
use Rattle.promise_kept.specs.Seen.{FloorsAre, IsLearnt, IsOneLearnt, floors_of}
use Rattle.shard_log.specs.View.{View}
use Rattle.shard_tables.specs.StoreView.{Store}
use Rattle.shard_tables.specs.declared.writes.Wrote.{Wrote}
use Rattle.tao_base.specs.declared.entry.Entry.{Entry}
use Rattle.tao_core.proofs.Learning.{same_number}
use Rattle.tao_core.specs.Calls.{LearnsBoth, LearnsThrough}
use Rattle.tao_keeper.specs.Table.{Tables}
use Rattle.tao_keeper.specs.declared.jobs.Job.{Job}
use Rattle.tao_schema.specs.Schema.{types_of}
use Rattle.topology.specs.Config.{Settings}
use Rattle.write_plan.specs.Plans.{Writing, answered_job}

-- ---- sessions by their numbers

-- what is found after a change that keeps the test is what was found, changed
find_map : (f : Session → Session) (test : Session → Bool) → ((x : Session) → test (f x) ≡ test x) → (xs : List Session)
    → find test (map f xs) ≡ option_map f (find test xs)
find_map f test same [] = refl
find_map f test same (x ∷ xs) = elim (cases_Bool (test x)) [
  | inl is ↦ (let after : test (f x) ≡ true = same x ∙ is in rw is (rw after refl))
  | inr isnt ↦ (let after : test (f x) ≡ false = same x ∙ isnt in rw isnt (rw after (find_map f test same xs)))
]

found_number : (n : ℕ) (xs : List Session) (x : Session) → session_at xs n ≡ Some x → x.session ≡ n
found_number n [] x found = absurd (cc)
found_number n (y ∷ ys) x found = elim (cases_Bool (y.session == n)) [
  | inl is ↦ subst (λ (o : Session). o.session ≡ n) (one_some y x (rw is at found)) (eqb-true y.session n is)
  | inr isnt ↦ found_number n ys x (rw isnt at found)
]

module _ (to : Session) (xs : List Session) where
  abbrev Changed : Session → Session
  Changed x = if x.session == to.session then to else x

  changed_at : (n : ℕ) → session_at (with_changed to xs) n ≡ option_map Changed (session_at xs n)
  changed_at n = find_map Changed (λ (x : Session). x.session == n) (λ x. ap (λ m. m == n) (same_number to x)) xs

  pub session_here : (n : ℕ) (from : Session) → session_at xs n ≡ Some from → to.session ≡ from.session → session_at (with_changed to xs) n ≡ Some to
  session_here n from found same =
      let own : (from.session == to.session) ≡ true = eq-eqb from.session to.session (sym same) in
      let there : Changed from ≡ to = rw own refl in
      changed_at n ∙ ap (option_map Changed) found ∙ ap Some there

  -- the floors of the one that changed
  floors_here : (n : ℕ) (from : Session) → session_at xs n ≡ Some from → to.session ≡ from.session → floors_of (with_changed to xs) n ≡ to.floors
  floors_here n from found same = ap (λ o. option_map_or (λ (s : Session). s.floors) o []) (session_here n from found same)

  -- and of each other
  floors_there : (n : ℕ) → to.session ≢ n → floors_of (with_changed to xs) n ≡ floors_of xs n
  floors_there n apart = ap (λ o. option_map_or (λ (s : Session). s.floors) o []) (changed_at n) ∙ by (session_at xs n) refl
    where
      by : (o : Option Session) → session_at xs n ≡ o
          → option_map_or (λ (s : Session). s.floors) (option_map Changed o) [] ≡ option_map_or (λ (s : Session). s.floors) o []
      by None found = refl
      by (Some x) found = elim (cases_Bool (x.session == to.session)) [
        | inl is ↦ absurd (apart (sym (eqb-true x.session to.session is) ∙ found_number n xs x found))
        | inr isnt ↦ rw isnt refl
      ]

-- ---- one session learns

-- each session's floors are those of what it has learnt of and seen
abbrev pub AreAllFloors : (ℕ → List Entry) → (ℕ → List SeenVersion) → List Session → Type 0
AreAllFloors learnt saw sessions = (n : ℕ) → FloorsAre (learnt n) (saw n) (floors_of sessions n)

-- one session has learnt of or seen more, and its floors are those of that; nothing else changed
record LearnsAlone (number : ℕ) (from to : Session) (learnt learnt_now : ℕ → List Entry) (saw saw_now : ℕ → List SeenVersion) : Type 0 where
  same : to.session ≡ from.session
  here : FloorsAre (learnt number) (saw number) from.floors → FloorsAre (learnt_now number) (saw_now number) to.floors
  others : (n : ℕ) → n ≢ number → (learnt_now n ≡ learnt n) × (saw_now n ≡ saw n)

learns_alone : (number : ℕ) (from to : Session) (old : List Session) (learnt learnt_now : ℕ → List Entry) (saw saw_now : ℕ → List SeenVersion)
    → session_at old number ≡ Some from → LearnsAlone number from to learnt learnt_now saw saw_now → AreAllFloors learnt saw old
    → AreAllFloors learnt_now saw_now (with_changed to old)
learns_alone number from to old learnt learnt_now saw saw_now found learns were n = elim (cases_eq n number) [
  | inl is ↦
      let was : FloorsAre (learnt number) (saw number) from.floors =
      subst (λ o. FloorsAre (learnt number) (saw number) (option_map_or (λ (s : Session). s.floors) o [])) found (were number) in
      subst (λ k. FloorsAre (learnt_now k) (saw_now k) (floors_of (with_changed to old) k)) (sym is)
      (subst (FloorsAre (learnt_now number) (saw_now number)) (sym (floors_here to old number from found learns.same)) (learns.here was))
  | inr apart ↦
      let other : to.session ≢ n = λ same. apart (sym same ∙ learns.same ∙ found_number number old from found) in
      let stays = learns.others n apart in
      subst (FloorsAre (learnt_now n) (saw_now n)) (sym (floors_there to old n other))
      (subst (λ es. FloorsAre es (saw_now n) (floors_of old n)) (sym stays.0) (subst (λ vs. FloorsAre (learnt n) vs (floors_of old n)) (sym stays.1) (were n)))
]

-- ---- one entry is learnt

-- the entry that is learnt, if any
abbrev pub entry_learnt : Option LearntEntry → List Entry
entry_learnt None = []
entry_learnt (Some t) = t.entry ∷ []

-- a session has learnt of these besides
abbrev pub learnt_more : ℕ → List Entry → (ℕ → List Entry) → ℕ → List Entry
learnt_more number more learnt n = if n == number then learnt n ++ more else learnt n

more_here : (number : ℕ) (more : List Entry) (learnt : ℕ → List Entry) → learnt_more number more learnt number ≡ learnt number ++ more
more_here number more learnt = (let test : (number == number) ≡ true = eq-eqb number number refl in rw test refl)

more_there : (number n : ℕ) (more : List Entry) (learnt : ℕ → List Entry) → n ≢ number → learnt_more number more learnt n ≡ learnt n
more_there number n more learnt apart = (let test : (n == number) ≡ false = ne_eqb n number apart in rw test refl)

session_learns : (number : ℕ) (t : LearntEntry) (old new : List Session) (learnt : ℕ → List Entry) (saw : ℕ → List SeenVersion)
    → HasFewTouches t.shard t.entry → SessionLearns number t.shard t.entry t.note old new → AreAllFloors learnt saw old
    → AreAllFloors (learnt_more number (t.entry ∷ []) learnt) saw new
session_learns number t old new learnt saw few learns were =
    let more = t.entry ∷ [] in
    subst (AreAllFloors (learnt_more number more learnt) saw) (sym learns.is)
    (learns_alone number learns.from learns.to old learnt (learnt_more number more learnt) saw saw learns.found (record {
      same = ap (λ (s : Session). s.session) learns.learns.rest;
      here = λ was. subst (λ es. FloorsAre es (saw number) learns.to.floors) (sym (more_here number more learnt))
          (floors_learn t.shard t.entry (learnt number) (saw number) learns.from.floors learns.to.floors few.here few.few learns.learns.floors was);
      others = λ n apart. (more_there number n more learnt apart, refl);
    }) were)

-- ---- one version is seen

-- a session has seen one more version
abbrev pub seen_more : ℕ → SeenVersion → (ℕ → List SeenVersion) → ℕ → List SeenVersion
seen_more number one saw n = if n == number then one ∷ saw n else saw n

pub session_sees : (number : ℕ) (one : SeenVersion) (note : View) (old new : List Session) (learnt : ℕ → List Entry) (saw : ℕ → List SeenVersion)
    → SessionLearnsVersion number one.key one.version note old new → AreAllFloors learnt saw old → AreAllFloors learnt (seen_more number one saw) new
session_sees number one note old new learnt saw learns were =
    let test : (number == number) ≡ true = eq-eqb number number refl in
    let own : seen_more number one saw number ≡ one ∷ saw number = rw test refl in
    subst (AreAllFloors learnt (seen_more number one saw)) (sym learns.is)
    (learns_alone number learns.from learns.to old learnt learnt saw (seen_more number one saw) learns.found (record {
      same = ap (λ (s : Session). s.session) learns.learns.rest;
      here = λ was. subst (λ vs. FloorsAre (learnt number) vs learns.to.floors) (sym own)
          (floors_see one (learnt number) (saw number) learns.from.floors learns.to.floors learns.learns.floors was);
      others = λ n apart. (let other : (n == number) ≡ false = ne_eqb n number apart in (refl, rw other refl));
    }) were)

-- ---- both entries of a write are learnt

none_more : (number n : ℕ) (learnt : ℕ → List Entry) → learnt_more number [] learnt n ≡ learnt n
none_more number n learnt = elim (cases_Bool (n == number)) [ inl is ↦ rw is (append-nil (learnt n)) | inr isnt ↦ rw isnt refl ]

learns_through : (number : ℕ) (told : Option LearntEntry) (old new : List Session) (learnt : ℕ → List Entry) (saw : ℕ → List SeenVersion)
    → IfSome told (λ t. HasFewTouches t.shard t.entry) → LearnsThrough number told old new → AreAllFloors learnt saw old
    → AreAllFloors (learnt_more number (entry_learnt told) learnt) saw new
learns_through number None old new learnt saw few learns were n =
    subst (λ es. FloorsAre es (saw n) (floors_of new n)) (sym (none_more number n learnt))
    (subst (λ sessions. FloorsAre (learnt n) (saw n) (floors_of sessions n)) (sym learns) (were n))
learns_through number (Some t) old new learnt saw few learns were n = session_learns number t old new learnt saw few learns were n

-- each entry that is learnt has few touches, on its shard
pub record AreFewLearnt (told : LearntEntries) : Type 0 where
  pub here : IfSome told.here (λ t. HasFewTouches t.shard t.entry)
  pub other : IfSome told.other (λ t. HasFewTouches t.shard t.entry)

-- what sessions have learnt of after that
abbrev pub learnt_after : ℕ → LearntEntries → (ℕ → List Entry) → ℕ → List Entry
learnt_after number told learnt = learnt_more number (entry_learnt told.other) (learnt_more number (entry_learnt told.here) learnt)

pub learns_both : (number : ℕ) (told : LearntEntries) (old new : List Session) (learnt : ℕ → List Entry) (saw : ℕ → List SeenVersion) → AreFewLearnt told
    → LearnsBoth number told old new → AreAllFloors learnt saw old → AreAllFloors (learnt_after number told learnt) saw new
learns_both number told old new learnt saw few learns were =
    learns_through number told.other learns.between new (learnt_more number (entry_learnt told.here) learnt) saw few.other learns.other
    (learns_through number told.here old learns.between learnt saw few.here learns.here were)

-- who has learnt of an entry stays so
more_after : (number n : ℕ) (more : List Entry) (learnt : ℕ → List Entry) → (es : List Entry) × (learnt_more number more learnt n ≡ learnt n ++ es)
more_after number n more learnt = elim (cases_Bool (n == number)) [
  | inl is ↦ (more, rw is refl)
  | inr isnt ↦ ([], rw isnt (sym (append-nil (learnt n))))
]

pub learnt_grows : (number : ℕ) (told : LearntEntries) (learnt : ℕ → List Entry) (n : ℕ)
    → (es : List Entry) × (learnt_after number told learnt n ≡ learnt n ++ es)
learnt_grows number told learnt n =
    let first = more_after number n (entry_learnt told.here) learnt in
    let second = more_after number n (entry_learnt told.other) (learnt_more number (entry_learnt told.here) learnt) in
    (first.0 ++ second.0, second.1 ∙ ap (λ es. es ++ second.0) first.1 ∙ append_assoc (learnt n) first.0 second.0)

-- and the session of a write has learnt of each entry that it wrote
what_is_learnt : (told : Option LearntEntry) (e : Entry) → IsOneLearnt told e → Contains (entry_learnt told) e
what_is_learnt None e is = absurd is
what_is_learnt (Some t) e is = (0, omega arith, is)

pub has_learnt : (number : ℕ) (told : LearntEntries) (learnt : ℕ → List Entry) (e : Entry) → IsLearnt told e
    → Contains (learnt_after number told learnt number) e
has_learnt number told learnt e is =
    let first = learnt_more number (entry_learnt told.here) learnt in
    subst (λ es. Contains es e) (sym (more_here number (entry_learnt told.other) first)) (elim is [
      | inl here ↦ Contains-append_left (first number) (entry_learnt told.other) e
          (subst (λ es. Contains es e) (sym (more_here number (entry_learnt told.here) learnt))
          (Contains-append_right (learnt number) (entry_learnt told.here) e (what_is_learnt told.here e here)))
      | inr other ↦ Contains-append_right (first number) (entry_learnt told.other) e (what_is_learnt told.other e other)
    ])

-- ---- what is learnt has few touches

abbrev pub as_learnt : ℕ → View → Entry → LearntEntry
as_learnt shard note e = record { shard = shard; entry = e; note = note }

module _ (s : Settings) (tables : Tables) (stores : List Store) (regions : HaveMasterRegions s) (are : AreStoresOf true s tables stores) where
  seen_few : (shard : ℕ) (note : View) (e : Entry) → shard < s.shards → IsSeenEntry (pens_of stores) shard note e → HasFewTouches shard e
  seen_few shard note e here seen =
      let log = log_is true s tables stores shard regions are here in
      let stands = stands_in_log (pens_of stores) shard note (Some e) seen in
      let there : entry_at (master_log s tables shard) e.position ≡ Some e =
      subst (λ l. entry_at l e.position ≡ Some e) (log.entries_is refl) (stands log.told_is) in
      entry_few (types_of s.schema) shard (master_log s tables shard) (sound_logs s tables (are.kept refl) shard here) e.position e there

  other_by : (j : Job) (w : Wrote) (entry : Option Entry)
      → IfSome entry (λ e. (far_shard j < s.shards) × IsSeenEntry (pens_of stores) (far_shard j) w.note e)
      → IfSome (option_map (λ e. as_learnt (far_shard j) w.note e) entry) (λ t. HasFewTouches t.shard t.entry)
  other_by j w None stands = tt
  other_by j w (Some e) stands = seen_few (far_shard j) w.note e stands.0 stands.1

  other_few : (job : Option Job) (wrote : Option Wrote) → IfSome job (λ j. StandsThere s j wrote stores)
      → IfSome (learnt_far job wrote) (λ t. HasFewTouches t.shard t.entry)
  other_few None wrote stands = tt
  other_few (Some j) None stands = tt
  other_few (Some j) (Some w) stands = other_by j w w.entry stands

pub others_few : (s : Settings) (tables : Tables) (f : Fleet) (p : Writing) → HaveMasterRegions s → AreStoresOf true s tables f.stores
    → IsWriteUnderWay true s tables f p → IfSome (learnt_far (answered_job p) p.other) (λ t. HasFewTouches t.shard t.entry)
others_few s tables f p regions are under = other_few s tables f.stores regions are (answered_job p) p.other under.other
