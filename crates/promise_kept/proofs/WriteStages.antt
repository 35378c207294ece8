-- What each stage of a write makes of the logs, and that what its commit answered stands.
use Rattle.std.proofs.Common.{get_or, ◌≡◌, ◌∙◌, ◌⊎◌, ℕ, zero, suc, Bool, true, false, List, Option, Some, None, Ok, Err, refl, sym, ap, subst, inl, inr}
use Rattle.std.specs.Prelude.{⊤, All, IfSome, Result}
use Rattle.core_model.proofs.Places.{one_some}
use Rattle.core_model.specs.Jobs.{ShardJob}
use Rattle.core_model.specs.Stores.{AreKeptIn, stores_in}
use Rattle.core_plans.specs.Held.{learnt_of_write}
use Rattle.core_plans.specs.HeldWrites.{RefusesOnWay, RefusesWrite, call_of_plan, come_past, sent_by, way_by}
use Rattle.core_plans.specs.LedBy.{led_by, rules_of}
use Rattle.core_plans.specs.declared.leaders.Leaders.{Leaders}
use Rattle.core_steps.specs.OtherEnds.{EndsOver, JobWay, LeavesJob, MergesAlong, MergesBy, SentJob, TakesMerge, job_way}
use Rattle.core_steps.specs.Posting.{ChangesNoNode}
use Rattle.core_steps.specs.Relays.{RefusesPassing}
use Rattle.core_steps.specs.declared.routes.Route.{Route}
use Rattle.core_steps.specs.World.{World}
use Rattle.core_steps.specs.Writes.{RefusesCommit, SentWrite, StepsAs, asked_of_log}
use Rattle.graph_model.specs.Log.{entry_at}
use Rattle.graph_model.specs.Records.{HasStamp}
use Rattle.graph_model.specs.Soundness.{EdgeUpdate}
use Rattle.node_name.specs.declared.NodeName.{NodeName}
use Rattle.plain_promise.specs.Promise.{Begun, EachGrows, Logs, refused_at}
use Rattle.promise_kept.proofs.Adding.{AddsLearnt}
use Rattle.promise_kept.proofs.Commits.{write_of}
use Rattle.promise_kept.proofs.Going.{same_logs}
use Rattle.promise_kept.specs.Seen.{IsWriteFor}
use Rattle.replies.specs.declared.calls.ScheduledWhy.{ScheduledWhy}
use Rattle.replies.specs.declared.calls.ScheduledWhy.TheVariants as why
use Rattle.replies.specs.declared.refusals.Refusal.{Refusal}
use Rattle.replies.specs.declared.refusals.Refusal.TheVariants.{Memory, Store}
use Rattle.replies.specs.declared.refusals.StoreRefused.TheVariants.{KeeperFault, LinkFault, LogFull, SeqReused, TooOld, ShardFull, StampFull, Unsettled}
use Rattle.replies.specs.declared.reply.Reply.{Reply}
use Rattle.replies.specs.declared.reply.Reply.TheVariants.{Refused}
use Rattle.request_check.specs.declared.checked.CheckedWrite.{CheckedWrite}
use Rattle.shard_tables.specs.declared.writes.Wrote.{Wrote}
use Rattle.tao_base.specs.EdgeTypes.{EdgeTypes}
use Rattle.tao_base.specs.Ids.{shard_of}
use Rattle.tao_base.specs.Writes.{write_shard}
use Rattle.tao_base.specs.declared.entry.Entry.{Entry}
use Rattle.tao_keeper.specs.KeeperState.{KeeperState, KeepsTables}
use Rattle.tao_keeper.specs.Table.{Tables}
use Rattle.tao_schema.specs.Schema.{types_of}
use Rattle.topology.specs.Config.{Settings}
use Rattle.write_model.specs.Machine.{ClientWrite, Commits, LeavesEntry, MayMerge, MergesNews, StandsFor, source_of_write}
use Rattle.write_model.specs.Merges.{AreThere, JobSource, Stores, job_of, log_of}
use Rattle.write_plan.specs.Plans.{Writing, stage_from}
use Rattle.write_plan.specs.declared.committed.Committed.{Committed}
use Rattle.write_plan.specs.declared.progress.OtherEnd.{OtherEnd}
use Rattle.write_plan.specs.declared.progress.OtherEnd.TheVariants.{Due, Ended, Merged, Open}
use Rattle.write_plan.specs.declared.progress.WayBack.{WayBack}
use Rattle.write_plan.specs.declared.results.LeftOpen.{LeftOpen}
use Rattle.write_plan.specs.declared.results.LeftOpen.TheVariants as left
use Rattle.write_plan.specs.declared.stage.WriteStage.{WriteStage}
use Rattle.write_plan.specs.declared.stage.WriteStage.TheVariants.{Done}

-- ---- what was made of the logs

-- where the entry of a write stands, since these logs: nothing, where it stood, or its commit, and then perhaps its merge
abbrev pub RanEntry : EdgeTypes → Logs → ClientWrite → Logs → Entry → OtherEnd → Type 0
RanEntry types start w now e Due = ((now ≡ start) × StandsFor start w e) ⊎ Commits types start now w e
RanEntry types start w now e Merged = (other : ℕ) × LeavesEntry types start now w e other
RanEntry types start w now e Ended = (other : ℕ) × LeavesEntry types start now w e other
RanEntry types start w now e (Open why) = (other : ℕ) × LeavesEntry types start now w e other

abbrev pub RanBy : EdgeTypes → Logs → ClientWrite → Logs → Option Entry → OtherEnd → Type 0
RanBy types start w now None at = now ≡ start
RanBy types start w now (Some e) at = RanEntry types start w now e at

-- before the commit, and where there is no entry, nothing
abbrev pub Ran : EdgeTypes → Logs → ClientWrite → Logs → Option Committed → OtherEnd → Type 0
Ran types start w now None at = now ≡ start
Ran types start w now (Some c) at = RanBy types start w now c.wrote.entry at

module _ (types : EdgeTypes) (start : Logs) (w : ClientWrite) where
  -- a write whose entry stands has a merge before it at most
  entry_begins : (e : Entry) (at : OtherEnd) → StandsFor start w e → RanEntry types start w start e at
  entry_begins e Due stood = inl (refl, stood)
  entry_begins e Merged stood = (0, inr (record { stood = stood; merges = inl refl }))
  entry_begins e Ended stood = (0, inr (record { stood = stood; merges = inl refl }))
  entry_begins e (Open why) stood = (0, inr (record { stood = stood; merges = inl refl }))

  by_begins : (entry : Option Entry) (at : OtherEnd) → IfSome entry (StandsFor start w) → RanBy types start w start entry at
  by_begins None at stood = refl
  by_begins (Some e) at stood = entry_begins e at stood

  pub ran_begins : (committed : Option Committed) (at : OtherEnd) → IfSome committed (λ c. IfSome c.wrote.entry (StandsFor start w))
      → Ran types start w start committed at
  ran_begins None at stood = refl
  ran_begins (Some c) at stood = by_begins c.wrote.entry at stood

  -- the merge of its job
  pub ran_merges : (was now : Logs) (e : Entry) (other : ℕ) → RanEntry types start w was e Due → MayMerge types was now (source_of_write w e other)
      → (other : ℕ) × LeavesEntry types start now w e other
  ran_merges was now e other (inl rested) may =
      (other, inr (record { stood = rested.1; merges = subst (λ l. MayMerge types l now (source_of_write w e other)) rested.0 may }))
  ran_merges was now e other (inr commits) may = (other, inl (record { between = was; commits = commits; merges = may }))

  entry_alone : (now : Logs) (e : Entry) (at : OtherEnd) → RanEntry types start w now e at
      → (now ≡ start) ⊎ ((entry : Entry) × (other : ℕ) × LeavesEntry types start now w entry other)
  entry_alone now e Due (inl rested) = inl rested.0
  entry_alone now e Due (inr commits) = inr (e, 0, inl (record { between = now; commits = commits; merges = inl refl }))
  entry_alone now e Merged ran = inr (e, ran.0, ran.1)
  entry_alone now e Ended ran = inr (e, ran.0, ran.1)
  entry_alone now e (Open why) ran = inr (e, ran.0, ran.1)

  by_alone : (now : Logs) (entry : Option Entry) (at : OtherEnd) → RanBy types start w now entry at
      → (now ≡ start) ⊎ ((entry : Entry) × (other : ℕ) × LeavesEntry types start now w entry other)
  by_alone now None at ran = inl ran
  by_alone now (Some e) at ran = entry_alone now e at ran

  pub ran_alone : (now : Logs) (committed : Option Committed) (at : OtherEnd) → Ran types start w now committed at
      → (now ≡ start) ⊎ ((entry : Entry) × (other : ℕ) × LeavesEntry types start now w entry other)
  ran_alone now None at ran = inl ran
  ran_alone now (Some c) at ran = by_alone now c.wrote.entry at ran

-- ---- what a refusal says

-- with position 0 the logs are as they were, and at another the write's entry stands
abbrev pub RefusesHere : Logs → CheckedWrite → Logs → ℕ → Type 0
RefusesHere start call now zero = now ≡ start
RefusesHere start call now (suc n) = (e : Entry) × StandsFor now (write_of call) e × (e.position ≡ suc n)

abbrev pub IsRefusedSo : Logs → CheckedWrite → Logs → Reply → Type 0
IsRefusedSo start call now reply = (refusal : Refusal) × (reply ≡ Refused refusal) × RefusesHere start call now (refused_at refusal)

-- an entry that stands has a position
pub stands_at : (start : Logs) (call : CheckedWrite) (now : Logs) (e : Entry) (n : ℕ) → e.position ≡ n → StandsFor now (write_of call) e
    → RefusesHere start call now n
stands_at start call now e zero is stood =
    let gone : entry_at (log_of now (write_shard call.write)) 0 ≡ Some e =
    subst (λ n. entry_at (log_of now (write_shard call.write)) n ≡ Some e) is stood.stands in
    absurd (cc (gone))
stands_at start call now e (suc n) is stood = (e, stood, is)

-- ---- a write so far

-- it is under way for its call; what was made of the logs since these, with each entry that was added one that its session learns; and what its refusal
-- tells
pub record WritesSoFar (s : Settings) (began : Begun) (call : CheckedWrite) (start : Logs) (p : Writing) (keepers : KeeperState) : Type 0 where
  pub for_call : IsWriteFor s keepers began call p
  pub ran : Ran (types_of s.schema) start (write_of call) (stores_in s keepers.told).logs p.committed p.job
  pub adds : AddsLearnt start (stores_in s keepers.told).logs (learnt_of_write p)
  pub refused : IfSome p.refused (IsRefusedSo start call (stores_in s keepers.told).logs)

-- what a stage leaves of the stores: their logs grew, and they are sound and covered
pub record KeepsStage (s : Settings) (old new : KeeperState) : Type 0 where
  pub grows : EachGrows (stores_in s old.told).logs (stores_in s new.told).logs
  pub was : AreKeptIn s old.told
  pub now : AreKeptIn s new.told

-- the write of a plan, as the log of its shard is asked
abbrev pub plan_write : Writing → ClientWrite
plan_write p = record { shard = write_shard p.write; epoch = 0; origin = p.origin; asked = p.write }

pub open_stage : (refused : Option Reply) (committed : Option Committed) (job : OtherEnd) (back : WayBack) (at : WriteStage)
    → stage_from refused committed job back ≡ at → (Done ≡ at → ⊥) → refused ≡ None
open_stage (Some reply) committed job back at is not = absurd (not is)
open_stage None committed job back at is not = refl

-- ---- the commit

pub commit_ran : (s : Settings) (old : KeeperState) (new : Tables) (p : Writing) (retry : Bool) (entry : Option Entry)
    → StepsAs (asked_of_log s old (call_of_plan p)) retry entry (write_shard p.write) (stores_in s old.told) (stores_in s new)
    → RanBy (types_of s.schema) (stores_in s old.told).logs (plan_write p) (stores_in s new).logs entry Due
commit_ran s old new p false (Some e) steps = inr steps.commits
commit_ran s old new p true (Some e) steps = inl (steps.1, steps.0.stood)
commit_ran s old new p false None steps = steps.0.stays
commit_ran s old new p true None steps = absurd steps

-- what refuses a commit tells no position, and changes no table
pub record RefusesNone (refusal : Refusal) (old new : World) : Type 0 where
  pub position_is : refused_at refusal ≡ 0
  pub tables : KeepsTables true old.keepers new.keepers

refuses_none : (s : Settings) (sent : SentWrite) (refusal : Refusal) (old new : World) → RefusesCommit true s sent refusal old new
    → RefusesNone refusal old new
refuses_none s sent (Memory position) old new h = record { position_is = h.0; tables = h.1.same.tables }
refuses_none s sent (Store (LinkFault count when)) old new h =
    record { position_is = subst (λ w. refused_at (Store (LinkFault count w)) ≡ 0) (sym h.1.before) refl; tables = h.1.same.tables }
refuses_none s sent (Store (TooOld cut position)) old new h = record { position_is = refl; tables = h.1.same.tables }
refuses_none s sent (Store (SeqReused position)) old new h = record { position_is = refl; tables = h.1.same.tables }
refuses_none s sent (Store (ShardFull serial)) old new h = record { position_is = refl; tables = h.1.same.tables }
refuses_none s sent (Store (StampFull number)) old new h = record { position_is = refl; tables = h.1.same.tables }
refuses_none s sent (Store (LogFull count)) old new h = record { position_is = refl; tables = h.1.same.tables }
refuses_none s sent (Store (KeeperFault count)) old new h = record { position_is = refl; tables = h.1.same.tables }
refuses_none s sent (Store (Unsettled shard why)) old new h = absurd h.0
refuses_none s sent refusal old new h = absurd h

refuses_passing : (route : Route) (refusal : Refusal) (old new : World) → RefusesPassing true route refusal old new → RefusesNone refusal old new
refuses_passing route (Memory position) old new h =
    record { position_is = h.0; tables = λ told at. ap (λ (w : World). w.keepers.told at) h.1 }
refuses_passing route (Store (LinkFault count when)) old new h =
    record { position_is = subst (λ w. refused_at (Store (LinkFault count w)) ≡ 0) (sym h.1.before) refl; tables = h.1.same.tables }
refuses_passing route refusal old new h = absurd h

refuses_on_way : (passed : Option NodeName) (p : Writing) (refusal : Refusal) (old new : World) → RefusesOnWay true passed p refusal old new
    → RefusesNone refusal old new
refuses_on_way None p refusal old new h = absurd h
refuses_on_way (Some leader) p refusal old new h = refuses_passing (way_by leader p) refusal old new h

pub refuses_write : (s : Settings) (leaders : Leaders) (p : Writing) (refusal : Refusal) (old new : World)
    → RefusesWrite (led_by (rules_of true s) leaders) p refusal old new → RefusesNone refusal old new
refuses_write s leaders p refusal old new (inl way) = refuses_on_way leaders.passed p refusal old new way
refuses_write s leaders p refusal old new (inr there) =
    let led = led_by (rules_of true s) leaders in
    let says = refuses_none s (sent_by led p) refusal (come_past led old) new there in
    record { position_is = says.position_is; tables = says.tables }

-- ---- the merge

-- what the source of a job is, by its parts
source_is : (w : ClientWrite) (e : Entry) (owed : JobSource) → owed.shard ≡ w.shard → owed.epoch ≡ w.epoch → owed.entry ≡ e
    → owed ≡ source_of_write w e owed.other
source_is w e owed shard epoch entry = λ i. record { shard = shard i; epoch = epoch i; entry = entry i; other = owed.other }

news_may : (types : EdgeTypes) (old new : Logs) (owed : JobSource) → MergesNews types old new owed → MayMerge types old new owed
news_may types old new owed (inl none) = inl none.1
news_may types old new owed (inr merges) = inr merges

-- records that lie on one shard, and are there
there_of : (log : ℕ → List Entry) (other : ℕ) (us : List EdgeUpdate) → All (λ u. shard_of u.0 ≡ other) us → All (HasStamp (log other)) us → AreThere log us
there_of log other us here done = λ k d lt. subst (λ n. HasStamp (log n) (get_or us k d)) (sym (here k d lt)) (done k d lt)

module _ (s : Settings) (w : ClientWrite) (e : Entry) (j : ShardJob) (old new : World) (first : w.epoch ≡ 0) (here : j.shard ≡ w.shard)
    (at : j.job.position ≡ e.position) (stands : entry_at (log_of (stores_in s old.keepers.told).logs w.shard) e.position ≡ Some e) where
  abbrev Was : Stores
  Was = stores_in s old.keepers.told

  abbrev Now : Stores
  Now = stores_in s new.keepers.told

  -- the entry that owes the job is the one that stands at its position
  own_entry : (shard position : ℕ) (entry : Entry) → shard ≡ j.shard → position ≡ j.job.position → entry_at (log_of Was.logs shard) position ≡ Some entry
      → entry ≡ e
  own_entry shard position entry shard_is position_is there =
      one_some entry e (sym (subst (λ n. entry_at (log_of Was.logs n) position ≡ Some entry) (shard_is ∙ here) there)
      ∙ ap (entry_at (log_of Was.logs w.shard)) (position_is ∙ at) ∙ stands)

  abbrev MergesIt : Type 0
  MergesIt = (other : ℕ) × MayMerge (types_of s.schema) Was.logs Now.logs (source_of_write w e other)

  rests : Now.logs ≡ Was.logs → MergesIt
  rests same = (0, inl same)

  taken : (way : JobWay) (wrote : Wrote) → way.job ≡ j → TakesMerge true s way wrote old new → MergesIt
  taken way wrote is takes =
      let m = (takes.writes refl).merges in
      let of = m.of in
      let owes = m.merges.owes in
      let same = own_entry m.owed.shard m.owed.entry.position m.owed.entry (of.shard_is ∙ ap (λ (x : ShardJob). x.shard) is)
      (of.position_is ∙ ap (λ (x : ShardJob). x.job.position) is) owes.stands in (
        m.owed.other,
        subst (MayMerge (types_of s.schema) Was.logs Now.logs)
            (source_is w e m.owed (of.shard_is ∙ ap (λ (x : ShardJob). x.shard) is ∙ here) (owes.epoch_is ∙ sym first) same)
            (news_may (types_of s.schema) Was.logs Now.logs m.owed m.merges.merges),
      )

  no_node : ChangesNoNode true old new → MergesIt
  no_node none = rests (same_logs s old.keepers new.keepers none.tables)

  left_open : (way : JobWay) (why : ScheduledWhy) (wrote : Option Wrote) → way.job ≡ j → LeavesJob true s way (left.Scheduled why wrote) old new → MergesIt
  left_open way why.LinkFault None is h = no_node h.2
  left_open way why.LinkFault (Some wrote) is h = taken way wrote is h.2
  left_open way why.KeeperFault None is h = no_node h.1
  left_open way why.LogFull None is h = no_node h.1
  left_open way why.Memory None is h = no_node h.0
  left_open way why.NoServer wrote is h = absurd h
  left_open way why.KeeperFault (Some wrote) is h = absurd h
  left_open way why.LogFull (Some wrote) is h = absurd h
  left_open way why.Memory (Some wrote) is h = absurd h

  merges_along : (way : JobWay) (result : Result Wrote LeftOpen) → way.job ≡ j → MergesAlong true s way result old new → MergesIt
  merges_along way (Ok wrote) is merges = taken way wrote is merges.0
  merges_along way (Err (left.Scheduled why wrote)) is merges = left_open way why wrote is merges
  merges_along way (Err (left.Refused reply)) is merges = absurd merges

  pub merges_by : (merging : Option NodeName) (sent : SentJob) (result : Result Wrote LeftOpen) → sent.job ≡ j → MergesBy true s merging sent result old new
      → MergesIt
  merges_by (Some merging) sent result is merges = merges_along (job_way sent merging) result is merges
  merges_by None sent result is none = rests (ap (λ (x : World). (stores_in s x.keepers.told).logs) none.1)

  -- once the job is ended, its records are where they are owed
  pub ended_there : EndsOver true s j (Ok tt) old new → AreThere (log_of Now.logs) (job_of (types_of s.schema) e)
  ended_there ends =
      let ended = ends.0 refl in
      let owes = ended.ends.owes in
      let same = own_entry ended.owed.shard ended.owed.entry.position ended.owed.entry ended.of.shard_is ended.of.position_is owes.stands in
      let there = there_of (log_of Was.logs) ended.owed.other (job_of (types_of s.schema) ended.owed.entry) owes.there ended.ends.done in
      subst (λ logs. AreThere (log_of logs) (job_of (types_of s.schema) e)) (sym ended.ends.logs)
      (subst (λ x. AreThere (log_of Was.logs) (job_of (types_of s.schema) x)) same there)

-- a job that is sent is merged or left open
pub never_refused : (s : Settings) (merging : Option NodeName) (sent : SentJob) (reply : Reply) (old new : World)
    → MergesBy true s merging sent (Err (left.Refused reply)) old new → ⊥
never_refused s (Some merging) sent reply old new merges = absurd merges
never_refused s None sent reply old new none = absurd (cc (none.0))

-- the end of a job changes no log
pub end_same : (s : Settings) (j : ShardJob) (result : Result ⊤ LeftOpen) (old new : World) → EndsOver true s j result old new
    → (stores_in s new.keepers.told).logs ≡ (stores_in s old.keepers.told).logs
end_same s j (Ok done) old new ends = (ends.0 refl).ends.logs
end_same s j (Err (left.Scheduled why.KeeperFault None)) old new ends = same_logs s old.keepers new.keepers ends.1
end_same s j (Err (left.Scheduled why.Memory None)) old new ends = same_logs s old.keepers new.keepers ends.0
end_same s j (Err (left.Scheduled why.KeeperFault (Some wrote))) old new ends = absurd ends
end_same s j (Err (left.Scheduled why.Memory (Some wrote))) old new ends = absurd ends
end_same s j (Err (left.Scheduled why.LinkFault wrote)) old new ends = absurd ends
end_same s j (Err (left.Scheduled why.LogFull wrote)) old new ends = absurd ends
end_same s j (Err (left.Scheduled why.NoServer wrote)) old new ends = absurd ends
end_same s j (Err (left.Refused reply)) old new ends = absurd ends

-- and writes nothing at the other end
pub end_writes : (s : Settings) (j : ShardJob) (why : ScheduledWhy) (wrote : Option Wrote) (old new : World)
    → EndsOver true s j (Err (left.Scheduled why wrote)) old new → wrote ≡ None
end_writes s j why.KeeperFault None old new ends = refl
end_writes s j why.Memory None old new ends = refl
end_writes s j why.KeeperFault (Some wrote) old new ends = absurd ends
end_writes s j why.Memory (Some wrote) old new ends = absurd ends
end_writes s j why.LinkFault wrote old new ends = absurd ends
end_writes s j why.LogFull wrote old new ends = absurd ends
end_writes s j why.NoServer wrote old new ends = absurd ends
