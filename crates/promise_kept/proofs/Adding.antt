-- The entries that a line adds to logs, and that a write tells its session of each one that it added.
use Rattle.std.proofs.Common.{arith, ◌≡◌, ◌<◌, ◌∙◌, ◌++◌, ◌∷◌, ◌+◌, [], ℕ, zero, suc, true, false, Bool, List, Option, Some, None, Ok, Err, length, drop, refl}
use Rattle.std.proofs.Common.{ap, inl, inr, subst, sym}
use Rattle.std.proofs.lemmas.Bool.{cases_eq, cases_lt}
use Rattle.std.proofs.lemmas.List.{get_or-drop, get_or-set_other, get_or-set_same, length-drop}
use Rattle.std.proofs.lemmas.List.Elements.{Contains-append_cases}
use Rattle.std.proofs.lemmas.Option.{slice_get-get_or}
use Rattle.std.specs.Option.{option_map}
use Rattle.std.specs.Prelude.{Contains, Result, slice_get}
use Rattle.core_model.specs.Jobs.{MergesOwed, ShardJob, far_shard}
use Rattle.core_model.specs.Stores.{master_log, master_store, masters_of, stores_in}
use Rattle.core_steps.proofs.core_nodes_lemmas.JobLemmas.{of_job}
use Rattle.core_steps.specs.core_nodes.Repairs.{owed_entry}
use Rattle.core_plans.specs.Held.{learnt_here, learnt_of_write}
use Rattle.core_plans.specs.declared.held.LearntEntries.{LearntEntries}
use Rattle.core_steps.specs.OtherEnds.{JobWay, LeavesJob, MergesAlong, MergesBy, SentJob, TakesMerge, job_way, known_of, learnt_far}
use Rattle.core_steps.specs.Posting.{ChangesNoNode}
use Rattle.core_steps.specs.World.{World}
use Rattle.core_steps.specs.Writes.{StepsAs}
use Rattle.graph_model.specs.Log.{entry_at}
use Rattle.master_tables.proofs.Calls.{numbers_are_positions}
use Rattle.master_tables.proofs.Each.{each_length}
use Rattle.node_name.specs.declared.NodeName.{NodeName}
use Rattle.plain_promise.proofs.PromiseLaws.{grown_by}
use Rattle.plain_promise.specs.Promise.{EachGrows, Logs, gained}
use Rattle.promise_kept.proofs.Going.{log_is, same_logs}
use Rattle.promise_kept.proofs.Learning.{as_learnt}
use Rattle.promise_kept.specs.Seen.{IsLearnt, IsOneLearnt}
use Rattle.replies.specs.declared.calls.ScheduledWhy.{ScheduledWhy}
use Rattle.replies.specs.declared.calls.ScheduledWhy.TheVariants as why
use Rattle.shard_tables.specs.Written.{AskedWrite}
use Rattle.shard_tables.specs.declared.writes.Wrote.{Wrote}
use Rattle.tao_base.specs.Writes.{write_shard}
use Rattle.tao_base.specs.declared.entry.Entry.{Entry}
use Rattle.tao_keeper.specs.declared.jobs.Job.{Job}
use Rattle.tao_schema.specs.Schema.{types_of}
use Rattle.topology.specs.Config.{Settings}
use Rattle.write_model.proofs.Growing.{entry_at-push, entry_at-within}
use Rattle.write_model.specs.Machine.{Gains, MergesNews}
use Rattle.write_model.specs.Merges.{Stores, job_of, log_of, merge_entry, merge_of}
use Rattle.write_plan.specs.Plans.{Writing, answered_job, written_there}
use Rattle.write_plan.specs.declared.committed.Committed.{Committed}
use Rattle.write_plan.specs.declared.results.LeftOpen.{LeftOpen}
use Rattle.write_plan.specs.declared.results.LeftOpen.TheVariants as left

-- ---- what logs have gained

-- the entry stands in a log past what that was before
pub record IsPast (old new : Logs) (e : Entry) : Type 0 where
  pub shard : ℕ
  pub position : ℕ
  pub stands : entry_at (log_of new shard) position ≡ Some e
  pub past : length (log_of old shard) < position

pub none_in : (e : Entry) → Contains [] e → ⊥
none_in e has = (let lt : has.0 < 0 = has.1 in omega (arith, lt))

past_here : (now : List Entry) (new : Logs) (e : Entry) → Contains now e → IsPast [] (now ∷ new) e
past_here now new e has = record {
  shard = 0;
  position = suc has.0;
  stands = slice_get-get_or now has.0 e has.1 ∙ ap Some has.2;
  past = omega arith;
}

past_none : (now : List Entry) (new : Logs) (e : Entry) → IsPast [] new e → IsPast [] (now ∷ new) e
past_none now new e is = record { shard = suc is.shard; position = is.position; stands = is.stands; past = (let past = is.past in omega (arith, past)) }

past_later : (was : List Entry) (old : Logs) (now : List Entry) (new : Logs) (e : Entry) → IsPast old new e → IsPast (was ∷ old) (now ∷ new) e
past_later was old now new e is = record { shard = suc is.shard; position = is.position; stands = is.stands; past = is.past }

past_front : (was : List Entry) (old : Logs) (now : List Entry) (new : Logs) (e : Entry) → Contains (drop (length was) now) e
    → IsPast (was ∷ old) (now ∷ new) e
past_front was old now new e has =
    let lt = has.1 in
    let long = length-drop (length was) now in
    let within : length was + has.0 < length now = omega (arith, lt, long) in
    record {
      shard = 0;
      position = suc (length was + has.0);
      stands = slice_get-get_or now (length was + has.0) e within ∙ ap Some (sym (get_or-drop (length was) now has.0 e) ∙ has.2);
      past = omega arith;
    }

pub gained_past : (old new : Logs) (e : Entry) → Contains (gained old new) e → IsPast old new e
gained_past old [] e has = absurd (none_in e has)
gained_past [] (now ∷ new) e has = elim (Contains-append_cases now (gained [] new) e has) [
  | inl here ↦ past_here now new e here
  | inr later ↦ past_none now new e (gained_past [] new e later)
]
gained_past (was ∷ old) (now ∷ new) e has = elim (Contains-append_cases (drop (length was) now) (gained old new) e has) [
  | inl here ↦ past_front was old now new e here
  | inr later ↦ past_later was old now new e (gained_past old new e later)
]

-- ---- that all of it is learnt

-- each entry that logs have gained since these is one that is learnt
abbrev pub AddsLearnt : Logs → Logs → LearntEntries → Type 0
AddsLearnt start now told =
    (shard position : ℕ) (e : Entry) → entry_at (log_of now shard) position ≡ Some e → length (log_of start shard) < position → IsLearnt told e

not_past : (log : List Entry) (position : ℕ) (e : Entry) → entry_at log position ≡ Some e → length log < position → ⊥
not_past log position e stands past = (let within = entry_at-within log position e stands in omega (arith, past, within))

-- none was added
pub adds_same : (start now : Logs) (told : LearntEntries) → now ≡ start → AddsLearnt start now told
adds_same start now told same shard position e stands past =
    absurd (not_past (log_of start shard) position e (subst (λ logs. entry_at (log_of logs shard) position ≡ Some e) same stands) past)

-- one was added
pub adds_gain : (old new : Logs) (shard : ℕ) (e : Entry) (told : LearntEntries) → Gains old new shard e → IsLearnt told e → AddsLearnt old new told
adds_gain old new shard e told gains is other position x stands past = elim (cases_eq other shard) [
  | inl same ↦
      let here : log_of new shard ≡ log_of old shard ++ e ∷ [] =
      ap (λ l. log_of l shard) gains.1 ∙ get_or-set_same old shard (log_of old shard ++ e ∷ []) [] gains.0 in
      let there = subst (λ l. entry_at l position ≡ Some x) (ap (log_of new) same ∙ here) stands in
      elim (entry_at-push (log_of old shard) e position x there) [
        | inl before ↦ absurd (not_past (log_of old shard) position x before (subst (λ n. length (log_of old n) < position) same past))
        | inr last ↦ subst (IsLearnt told) last.1 is
      ]
  | inr apart ↦
      let stays : log_of new other ≡ log_of old other =
      ap (λ l. log_of l other) gains.1 ∙ get_or-set_other old shard other (log_of old shard ++ e ∷ []) [] apart in
      absurd (not_past (log_of old other) position x (subst (λ l. entry_at l position ≡ Some x) stays stands) past)
]

-- an entry of a log that grew stands in its beginning, where that is so long
slice_get-front : (xs ys : List Entry) (n : ℕ) (x : Entry) → slice_get (xs ++ ys) n ≡ Some x → n < length xs → slice_get xs n ≡ Some x
slice_get-front [] ys n x at lt = absurd (omega (arith, lt))
slice_get-front (z ∷ xs) ys zero x at lt = at
slice_get-front (z ∷ xs) ys (suc n) x at lt = slice_get-front xs ys n x at (omega (arith, lt))

entry_at-front : (log more : List Entry) (position : ℕ) (e : Entry) → entry_at (log ++ more) position ≡ Some e → position < length log + 1
    → entry_at log position ≡ Some e
entry_at-front log more zero e at lt = absurd (cc (at))
entry_at-front log more (suc n) e at lt = slice_get-front log more n e at (omega (arith, lt))

-- what was added by then, and what was added since
pub adds_on : (start mid now : Logs) (first second : LearntEntries) → EachGrows mid now → ((e : Entry) → IsLearnt first e → IsLearnt second e)
    → AddsLearnt start mid first → AddsLearnt mid now second → AddsLearnt start now second
adds_on start mid now first second grows still was adds shard position e stands past = elim (cases_lt (length (log_of mid shard)) position) [
  | inl later ↦ adds shard position e stands later
  | inr before ↦
      let grown = grown_by mid now grows in
      let there = subst (λ l. entry_at l position ≡ Some e) (grown.is shard) stands in
      still e (was shard position e (entry_at-front (log_of mid shard) (grown.more shard) position e there (omega (arith, before))) past)
]

-- ---- what is learnt of each end

-- an entry that a commit answered is learnt
pub here_learnt : (q : Writing) (c : Committed) → q.committed ≡ Some c → (e : Entry) → c.wrote.entry ≡ Some e → IsLearnt (learnt_of_write q) e
here_learnt q c committed e entry =
    inl (subst (λ o. IsOneLearnt (learnt_here (record q { committed = o })) e) (sym committed)
    (subst (λ o. IsOneLearnt (option_map (as_learnt (write_shard q.write) c.wrote.note) o) e) (sym entry) refl))

-- of a write whose commit wasn't answered nothing is learnt
pub none_learnt : (p : Writing) → p.committed ≡ None → (e : Entry) → IsLearnt (learnt_of_write p) e → ⊥
none_learnt p none e told = by p.committed none told
  where
    by : (committed : Option Committed) → committed ≡ None → IsLearnt (learnt_of_write (record p { committed = committed })) e → ⊥
    by None none (inl here) = here
    by None none (inr other) = other
    by (Some c) none told = absurd (cc (none))

-- what was known of the other end is learnt still, whatever more is known
more_learnt : (job : Option Job) (before more : Option Wrote) (e : Entry) → IsOneLearnt (learnt_far job before) e
    → IsOneLearnt (learnt_far job (written_there before more)) e
more_learnt None before more e told = absurd told
more_learnt (Some j) None more e told = absurd told
more_learnt (Some j) (Some w) more e told = told

pub still_learnt : (p q : Writing) (more : Option Wrote) → q.write ≡ p.write → q.committed ≡ p.committed → q.other ≡ written_there p.other more → (e : Entry)
    → IsLearnt (learnt_of_write p) e → IsLearnt (learnt_of_write q) e
still_learnt p q more write committed other e (inl here) =
    inl (subst (λ w. IsOneLearnt (learnt_here (record q { write = w })) e) (sym write)
    (subst (λ c. IsOneLearnt (learnt_here (record q { write = p.write; committed = c })) e) (sym committed) here))
still_learnt p q more write committed other e (inr there) =
    inr (subst (λ c. IsOneLearnt (learnt_far (answered_job (record q { committed = c })) q.other) e) (sym committed)
    (subst (λ o. IsOneLearnt (learnt_far (answered_job p) o) e) (sym other) (more_learnt (answered_job p) p.other more e there)))

-- and so is the first entry that is known to be written there
far_by : (job : Option Job) (j : Job) → job ≡ Some j → (before : Option Wrote) → before ≡ None → (w : Wrote) (e : Entry) → w.entry ≡ Some e
    → IsOneLearnt (learnt_far job (written_there before (Some w))) e
far_by None j job before none w e entry = absurd (cc (job))
far_by (Some k) j job (Some b) none w e entry = absurd (cc (none))
far_by (Some k) j job None none w e entry =
    subst (λ o. IsOneLearnt (option_map (as_learnt (far_shard k) w.note) o) e) (sym entry) refl

pub far_learnt : (q : Writing) (j : Job) (before : Option Wrote) (w : Wrote) → answered_job q ≡ Some j → before ≡ None
    → q.other ≡ written_there before (Some w) → (e : Entry) → w.entry ≡ Some e → IsLearnt (learnt_of_write q) e
far_learnt q j before w job none other e entry =
    inr (subst (λ o. IsOneLearnt (learnt_far (answered_job q) o) e) (sym other) (far_by (answered_job q) j job before none w e entry))

-- ---- a commit

pub commit_adds : (asked : AskedWrite) (shard : ℕ) (old new : Stores) (retry : Bool) (entry : Option Entry) (told : LearntEntries)
    → ((e : Entry) → entry ≡ Some e → IsLearnt told e) → StepsAs asked retry entry shard old new → AddsLearnt old.logs new.logs told
commit_adds asked shard old new false (Some e) told has steps = adds_gain old.logs new.logs shard e told steps.commits.gained (has e refl)
commit_adds asked shard old new true (Some e) told has steps = adds_same old.logs new.logs told steps.1
commit_adds asked shard old new false None told has steps = adds_same old.logs new.logs told steps.0.stays
commit_adds asked shard old new true None told has steps = absurd steps

-- ---- a merge

module _ (s : Settings) (old new : World) where
  abbrev Was : Stores
  Was = stores_in s old.keepers.told

  abbrev Now : Stores
  Now = stores_in s new.keepers.told

  -- the entry that merges a job is the one that was answered
  merged_is : (j : ShardJob) (wrote : Option Entry) (m : MergesOwed s old.keepers.told new.keepers.told j) (merged : Entry)
      → wrote ≡ owed_entry s old.keepers j → m.owed.other < length Was.logs
      → merge_entry (types_of s.schema) (log_of Was.logs m.owed.other) m.owed ≡ Some merged → wrote ≡ Some merged
  merged_is j wrote m merged wrote_is within is =
      let types = types_of s.schema in
      let long = each_length (λ n. (old.keepers.told (master_store s n)).log) 0 s.shards in
      let here : m.owed.other < s.shards = omega (arith, within, long) in
      let numbered = (numbers_are_positions (masters_of s) old.keepers.told).number_is types m.owed m.merges.owes in
      let by_position : merge_of (log_of Was.logs m.owed.other) m.owed.shard m.owed.entry.position (job_of types m.owed.entry) ≡ Some merged =
      subst (λ n. merge_of (log_of Was.logs m.owed.other) m.owed.shard n (job_of types m.owed.entry) ≡ Some merged) numbered is in
      let in_master : merge_of (master_log s old.keepers.told m.owed.other) m.owed.shard m.owed.entry.position (job_of types m.owed.entry) ≡ Some merged =
      subst (λ l. merge_of l m.owed.shard m.owed.entry.position (job_of types m.owed.entry) ≡ Some merged) (log_is s old.keepers.told m.owed.other here)
      by_position in
      wrote_is
      ∙ of_job s j m.owed (λ other shard position us. merge_of (master_log s old.keepers.told other) shard position us ≡ Some merged) m.of in_master

  module _ (told : LearntEntries) where
    rests : Now.logs ≡ Was.logs → AddsLearnt Was.logs Now.logs told
    rests same = adds_same Was.logs Now.logs told same

    news_adds : (j : ShardJob) (wrote : Option Entry) (m : MergesOwed s old.keepers.told new.keepers.told j) → wrote ≡ owed_entry s old.keepers j
        → ((e : Entry) → wrote ≡ Some e → IsLearnt told e) → MergesNews (types_of s.schema) Was.logs Now.logs m.owed → AddsLearnt Was.logs Now.logs told
    news_adds j wrote m wrote_is has (inl none) = rests none.1
    news_adds j wrote m wrote_is has (inr merges) = adds_gain Was.logs Now.logs m.owed.other merges.merged told merges.gained
        (has merges.merged (merged_is j wrote m merges.merged wrote_is merges.gained.0 merges.is))

    taken_adds : (way : JobWay) (wrote : Wrote) → ((e : Entry) → wrote.entry ≡ Some e → IsLearnt told e) → TakesMerge true s way wrote old new
        → AddsLearnt Was.logs Now.logs told
    taken_adds way wrote has takes =
        let writes = takes.writes refl in
        news_adds way.job wrote.entry writes.merges writes.wrote_is has writes.merges.merges.merges

    no_node : ChangesNoNode true old new → AddsLearnt Was.logs Now.logs told
    no_node none = rests (same_logs s old.keepers new.keepers none.tables)

    left_adds : (way : JobWay) (why : ScheduledWhy) (wrote : Option Wrote)
        → ((w : Wrote) → wrote ≡ Some w → (e : Entry) → w.entry ≡ Some e → IsLearnt told e) → LeavesJob true s way (left.Scheduled why wrote) old new
        → AddsLearnt Was.logs Now.logs told
    left_adds way why.LinkFault None has h = no_node h.2
    left_adds way why.LinkFault (Some wrote) has h = taken_adds way wrote (has wrote refl) h.2
    left_adds way why.KeeperFault None has h = no_node h.1
    left_adds way why.LogFull None has h = no_node h.1
    left_adds way why.Memory None has h = no_node h.0
    left_adds way why.NoServer wrote has h = absurd h
    left_adds way why.KeeperFault (Some wrote) has h = absurd h
    left_adds way why.LogFull (Some wrote) has h = absurd h
    left_adds way why.Memory (Some wrote) has h = absurd h

    -- of what a merge adds its answer says, also where that was lost on its way back
    abbrev SaysKnown : Result Wrote LeftOpen → Type 0
    SaysKnown result = (w : Wrote) → known_of result ≡ Some w → (e : Entry) → w.entry ≡ Some e → IsLearnt told e

    along_adds : (way : JobWay) (result : Result Wrote LeftOpen) → SaysKnown result → MergesAlong true s way result old new → AddsLearnt Was.logs Now.logs told
    along_adds way (Ok wrote) has merges = taken_adds way wrote (has wrote refl) merges.0
    along_adds way (Err (left.Scheduled why wrote)) has merges = left_adds way why wrote has merges
    along_adds way (Err (left.Refused reply)) has merges = absurd merges

    pub merge_adds : (merging : Option NodeName) (sent : SentJob) (result : Result Wrote LeftOpen) → SaysKnown result
        → MergesBy true s merging sent result old new → AddsLearnt Was.logs Now.logs told
    merge_adds (Some merging) sent result has merges = along_adds (job_way sent merging) result has merges
    merge_adds None sent result has none = rests (ap (λ (x : World). (stores_in s x.keepers.told).logs) none.1)
