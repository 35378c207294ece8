-- A line that steps a held call keeps the promise.
use Rattle.std.proofs.Common.{◌≡◌, ◌<◌, ◌∙◌, ◌⊎◌, ◌++◌, [], ℕ, true, false, List, Option, Some, None, append-nil, refl, sym, ap}
use Rattle.std.proofs.Common.{subst, inl, inr, if◌then◌else◌}
use Rattle.std.proofs.lemmas.Bool.{cases_eq, eq-eqb, ne_eqb}
use Rattle.std.proofs.lemmas.Option.{IfSome_then}
use Rattle.std.specs.Prelude.{◌==◌, IfSome, IsSome}
use Rattle.core_model.proofs.Places.{one_some}
use Rattle.core_model.specs.Pens.{pens_of}
use Rattle.core_model.specs.Stores.{master_log, stores_in}
use Rattle.core_plans.proofs.WholeStages.{stages_miss_nothing}
use Rattle.core_plans.specs.Held.{IsUnderWay, OpensFirst, SetsPlan, StepsReadAlone, learnt_here}
use Rattle.core_plans.specs.Held.{learnt_of_write, learnt_with, next_stage, plan_at, writer_at}
use Rattle.core_plans.specs.HeldReads.{EndsRead, HasComeTo, IsReadUnderWay, read_has_no_room, version_now}
use Rattle.core_plans.specs.HeldWrites.{CommitsBy, ComesOfWrite, DoesWriteStage, IsBefore, IsWriteUnderWay, way_given_up, write_is_down}
use Rattle.core_plans.specs.LedBy.{rules_of}
use Rattle.core_plans.specs.Needs.{leaders_of_write}
use Rattle.core_plans.specs.declared.held.HeldPlan.{HeldPlan}
use Rattle.core_plans.specs.declared.held.HeldPlan.TheVariants as of
use Rattle.core_plans.proofs.HeldWriteStages.{before_commit}
use Rattle.core_plans.proofs.InTurn.{IsSameRead, read_same}
use Rattle.core_plans.specs.declared.leaders.Leaders.{Leaders}
use Rattle.core_steps.specs.OtherEnds.{learnt_far}
use Rattle.core_steps.specs.World.{World}
use Rattle.graph_model.specs.Log.{version}
use Rattle.plain_promise.specs.Promise.{AreSameLogs, Begun, CallsAlone, EachGrows, Logs, Plain, ReadsRightly, SaysOfCall}
use Rattle.plain_promise.specs.Promise.{SeenVersion, carried_out, went_on}
use Rattle.promise_kept.proofs.Adding.{adds_same}
use Rattle.promise_kept.proofs.AtOnce.{few_with, has_all_learnt, here_few, read_steps}
use Rattle.promise_kept.proofs.Commits.{write_of}
use Rattle.promise_kept.proofs.Entries.{HasFewTouches}
use Rattle.promise_kept.proofs.Going.{grows_on, logs_grow, same_logs, settled_rests}
use Rattle.promise_kept.proofs.Learning.{AreAllFloors, AreFewLearnt, learns_both, learnt_after, learnt_grows, others_few}
use Rattle.promise_kept.proofs.ReadLemmas.{answer_last, answer_legal, answer_whole, read_reply_is}
use Rattle.promise_kept.proofs.Refusing.{EndsRefused, end_refused, end_refuses, stage_refuses}
use Rattle.promise_kept.proofs.Resting.{grows_then, held_rests, kept_then, seen_then}
use Rattle.promise_kept.proofs.Saying.{began_as, held_read_says, held_write_says, plain_at}
use Rattle.promise_kept.proofs.Seeing.{read_floors, saw_after, said_floors, uncarried_floors, write_floors}
use Rattle.promise_kept.proofs.WriteEnds.{WasDone, acknowledged, each_learnt, write_reply_is}
use Rattle.promise_kept.proofs.WriteStages.{IsRefusedSo, KeepsStage, WritesSoFar, ran_alone, ran_begins}
use Rattle.promise_kept.proofs.WritesOn.{gives_up_on, refused_rests, writes_on}
use Rattle.promise_kept.specs.Lines.{GoesOnUsable}
use Rattle.promise_kept.specs.Seen.{AreBegun, HasLast, HasWritten, IsAnsweredFor, IsPlainOf, IsPlanOf, IsReadFor, IsSettledSince, IsUnderWayFor}
use Rattle.promise_kept.specs.Seen.{IsWriteFor}
use Rattle.promise_kept.specs.Seen.{stores_at}
use Rattle.read_plan.specs.Ends.{EndsAt, EndsWith}
use Rattle.read_plan.specs.Readings.{Reading}
use Rattle.read_plan.specs.Standings.{stage_named, stage_of}
use Rattle.read_plan.specs.declared.end.ReadEnd.TheVariants as ended
use Rattle.read_plan.specs.declared.standing.Standing.TheVariants.{Ended}
use Rattle.replies.specs.declared.calls.CallReply.TheVariants as called
use Rattle.replies.specs.declared.calls.ReadReply.{ReadReply}
use Rattle.replies.specs.declared.plans.PlanReply.TheVariants.{Next}
use Rattle.replies.specs.declared.plans.Stage.{Stage}
use Rattle.replies.specs.declared.reply.Reply.{Reply}
use Rattle.replies.specs.declared.reply.Reply.TheVariants as replied
use Rattle.request_check.specs.declared.checked.CheckedCall.{CheckedCall}
use Rattle.request_check.specs.declared.checked.CheckedCall.TheVariants as call
use Rattle.request_check.specs.declared.checked.CheckedRead.{CheckedRead}
use Rattle.request_check.specs.declared.checked.CheckedWrite.{CheckedWrite}
use Rattle.shard_tables.specs.declared.writes.Wrote.{Wrote}
use Rattle.tao_base.specs.Queries.{query_key, query_shard}
use Rattle.tao_base.specs.declared.entry.Entry.{Entry}
use Rattle.tao_core.proofs.WriteStages.{end_keeps, inverse_keeps, stage_left, unrefused}
use Rattle.tao_core.specs.Calls.{world_of}
use Rattle.tao_core.specs.Core.{Moment, author}
use Rattle.tao_core.specs.HeldCalls.{Advances, EndsPlan, GoesOnHeld, Leaves, StepsAt, held_in, numbered_plan}
use Rattle.tao_keeper.specs.declared.jobs.Job.{Job}
use Rattle.tao_schema.specs.Schema.{types_of}
use Rattle.topology.specs.Config.{Settings}
use Rattle.words.specs.declared.PlanWord.{PlanWord}
use Rattle.write_model.specs.Machine.{StandsFor}
use Rattle.write_model.specs.Merges.{Stores, log_of}
use Rattle.write_plan.specs.Plans.{Writing, answered_job, next_of}
use Rattle.write_plan.specs.declared.committed.Committed.{Committed}
use Rattle.write_plan.specs.declared.stage.WriteStage.{WriteStage}
use Rattle.write_plan.specs.declared.stage.WriteStage.TheVariants.{Apply, Commit, Done, End, Inverse, Relay}

-- ---- what was written at the other end, as a write ends

module _ (s : Settings) (p q : Writing) (old new : World) (before : IsBefore p.back) (over : next_stage (of.Write q) ≡ None)
    (open_still : q.refused ≡ None) where
  abbrev OtherSame : Type 0
  OtherSame = (learnt_far (answered_job q) q.other ≡ learnt_far (answered_job p) p.other) ⊎ (q.other ≡ None)

  not_over : IsSome (next_stage (of.Write q)) → ⊥
  not_over some = (let e : false ≡ true = subst IsSome over some in absurd (cc))

  not_refused : (reply : Reply) → q.refused ≡ Some reply → ⊥
  not_refused reply is = (let e : None ≡ Some reply = sym open_still ∙ is in absurd (cc))

  -- a commit leaves what was written at the other end
  commit_last : (p.committed ≡ None → p.other ≡ None) → next_of p ≡ Commit → (chosen : Option Leaders) → CommitsBy (rules_of true s) chosen p old q new
      → OtherSame
  commit_last none at (Some leaders) (inl commits) = inr (ap (λ (x : Writing). x.other) commits.then ∙ none (before_commit p at))
  commit_last none at (Some leaders) (inr refuses) = absurd (not_refused _ (ap (λ (x : Writing). x.refused) refuses.then))
  commit_last none at None finds = absurd (not_refused _ (ap (λ (x : Writing). x.refused) finds.then))

  -- a write that was carried out ends with its way back, which writes nothing
  other_last : (p.committed ≡ None → p.other ≡ None) → (at : WriteStage) → next_of p ≡ at → DoesWriteStage (rules_of true s) at p old q new → OtherSame
  other_last none Commit at does = commit_last none at (leaders_of_write s old.states p) does
  other_last none Inverse at does =
      let on = inverse_keeps (rules_of true s) p q old new does in
      absurd (not_over (stage_left q on.committed open_still on.answered (subst IsBefore (sym on.keeps.back) before)))
  other_last none End at does =
      let on = end_keeps true s p q old new does in
      absurd (not_over (stage_left q on.committed open_still on.answered (subst IsBefore (sym on.keeps.back) before)))
  other_last none Apply at (inl applies) = inl (ap (λ (x : Writing). learnt_far (answered_job x) x.other) applies.then)
  other_last none Apply at (inr loses) = absurd (not_refused _ (ap (λ (x : Writing). x.refused) loses.then))
  other_last none Relay at (inl relays) = absurd (not_over (stage_left q relays.committed open_still
      (ap (λ (x : Writing). x.committed) relays.then ∙ relays.answered) (subst IsBefore (sym (ap (λ (x : Writing). x.back) relays.then)) tt)))
  other_last none Relay at (inr loses) = absurd (not_refused _ (ap (λ (x : Writing). x.refused) loses.then))
  other_last none Done at does = absurd does

  no_other : (job : Option Job) (other : Option Wrote) → other ≡ None → IfSome (learnt_far job other) (λ t. HasFewTouches t.shard t.entry)
  no_other None other is = tt
  no_other (Some j) other is = subst (λ o. IfSome (learnt_far (Some j) o) (λ t. HasFewTouches t.shard t.entry)) (sym is) tt

  pub far_few : IfSome (learnt_far (answered_job p) p.other) (λ t. HasFewTouches t.shard t.entry) → (p.committed ≡ None → p.other ≡ None)
      → ComesOfWrite (rules_of true s) p old q new → IfSome (learnt_far (answered_job q) q.other) (λ t. HasFewTouches t.shard t.entry)
  far_few few none (inr down) = absurd (not_refused (write_is_down down.node p) (ap (λ (x : Writing). x.refused) down.then
      ∙ (refused_rests (next_of p) p (write_is_down down.node p)).refused))
  far_few few none (inl next) = elim (other_last none (next_of p) refl next.does) [
    | inl same ↦ subst (λ o. IfSome o (λ t. HasFewTouches t.shard t.entry)) (sym same) few
    | inr gone ↦ no_other (answered_job q) q.other gone
  ]

-- ---- a write that ends without its last stage

-- there was no memory for what its session is to learn: it is gone, and nothing else changed
pub record GivesUpWrite (p q : Writing) (old new : World) : Type 0 where
  pub last : IsSome (writer_at (next_of p) p.origin)
  pub gone : q ≡ way_given_up p
  pub same : new ≡ old

-- its next stage was done, or a node is down that it needs; or it ends without its last one
abbrev pub AdvancesWrite : Settings → Writing → World → Writing → World → Type 0
AdvancesWrite s p old q new = ComesOfWrite (rules_of true s) p old q new ⊎ GivesUpWrite p q old new

-- ---- what a step of a held call keeps

module _ (old new : Moment) (learnt : ℕ → List Entry) (saw : ℕ → List SeenVersion) (held : ℕ → Option Begun) (settled : Option Logs)
    (was : IsPlainOf old (plain_at old.core.settings old.keepers.told learnt saw held settled)) (on : GoesOnUsable old new) (asked : PlanWord) (number : ℕ)
    (reply : Reply) (held_now : ℕ → Option Begun) (others : (n : ℕ) → (n ≡ number → ⊥) → held_now n ≡ held n) where
  abbrev s : Settings
  s = old.core.settings

  abbrev Before : Plain
  Before = plain_at old.core.settings old.keepers.told learnt saw held settled

  abbrev After : Begun → (ℕ → List Entry) → Plain
  After began learnt_now = plain_at old.core.settings new.keepers.told learnt_now (saw_after began reply saw) held_now settled

  abbrev Was : Stores
  Was = stores_in old.core.settings old.keepers.told

  abbrev Now : Stores
  Now = stores_in old.core.settings new.keepers.told

  -- a call that goes on by the line
  abbrev Then : Begun → Begun
  Then began = went_on (stores_in old.core.settings old.keepers.told).logs (stores_in old.core.settings new.keepers.told).logs began

  -- what its reply says, how the logs changed, and what the core is seen as then
  pub record StepKept (began : Begun) : Type 0 where
    pub learnt_now : ℕ → List Entry
    pub more : (n : ℕ) → (es : List Entry) × (learnt_now n ≡ learnt n ++ es)
    pub says : SaysOfCall (types_of s.schema) began Was.logs reply (After began learnt_now)
    pub changes : CallsAlone (types_of s.schema) began.call Was Now.logs
    pub seen : IsPlainOf new (After began learnt_now)

  nothing_more : (n : ℕ) → (es : List Entry) × (learnt n ≡ learnt n ++ es)
  nothing_more n = ([], sym (append-nil (learnt n)))

  abbrev HeldAs : HeldPlan → Type 0
  HeldAs plan = (began : Begun) × (held_now number ≡ Some began) × IsPlanOf new plan began

  -- the plans that are held then: that of the number is this, and no other changed
  begun_sets : (after : Option HeldPlan) → SetsPlan number after old.core.plans new.core.plans → ((plan : HeldPlan) → after ≡ Some plan → HeldAs plan)
      → AreBegun new held_now
  begun_sets after sets here n plan at =
      let found : (if n == number then after else plan_at old.core.plans n) ≡ Some plan = sym (sets n) ∙ at in
      elim (cases_eq n number) [
        | inl is ↦
            let own : after ≡ Some plan =
            subst (λ b. (if b then after else plan_at old.core.plans n) ≡ Some plan) (eq-eqb n number is) found in
            subst (λ k. (began : Begun) × (held_now k ≡ Some began) × IsPlanOf new plan began) (sym is) (here plan own)
        | inr apart ↦
            let other : plan_at old.core.plans n ≡ Some plan =
            subst (λ b. (if b then after else plan_at old.core.plans n) ≡ Some plan) (ne_eqb n number apart) found in
            let rests = held_rests old new on held was.held n plan other in
            (rests.0, others n apart ∙ rests.1, rests.2)
      ]

  module _ (began : Begun) (since : EachGrows began.logs (stores_at old).logs) (settles : IsSettledSince old began.settled)
      (holds : held_now number ≡ Some (Then began)) where
    held_on : (after plan : HeldPlan) → IsUnderWayFor s new.keepers (Then began) began.call after → Some after ≡ Some plan → HeldAs plan
    held_on after plan under is = (
      Then began,
      holds,
      subst (λ p. IsPlanOf new p (Then began)) (one_some after plan is) (record {
        under_way = subst (λ set. IsUnderWayFor set new.keepers (Then began) began.call after) (sym on.after.settings) under;
        grows = grows_on began.logs (stores_at old).logs (stores_at new).logs since (logs_grow old new on);
        settled = settled_rests old new on began.settled settles;
      }),
    )

    -- it goes on: its session learns nothing yet
    goes_so : (after : HeldPlan) (stage : Stage) → GoesOnHeld (replied.Plan (Next asked number stage)) number after (held_in old.core) reply (held_in new.core)
        → IsUnderWayFor s new.keepers (Then began) began.call after → CallsAlone (types_of s.schema) began.call Was Now.logs → StepKept began
    goes_so after stage goes under changes = record {
      learnt_now = learnt;
      more = nothing_more;
      says = subst (λ r. SaysOfCall (types_of s.schema) began Was.logs r (After began learnt)) (sym goes.said) tt;
      changes = changes;
      seen = seen_then old new on Before learnt (saw_after began reply saw) held_now was
          (uncarried_floors learnt saw new.core.sessions (subst (AreAllFloors learnt saw) (sym goes.sessions) was.learnt) began reply
          (ap carried_out goes.said))
          (begun_sets (Some after) goes.changes.sets (λ plan is. held_on after plan under is));
    }

    -- it ended, and is gone
    ends_so : (learnt_now : ℕ → List Entry) → SetsPlan number None old.core.plans new.core.plans
        → ((n : ℕ) → (es : List Entry) × (learnt_now n ≡ learnt n ++ es)) → AreAllFloors learnt_now (saw_after began reply saw) new.core.sessions
        → SaysOfCall (types_of s.schema) began Was.logs reply (After began learnt_now) → CallsAlone (types_of s.schema) began.call Was Now.logs → StepKept began
    ends_so learnt_now sets more floors says changes = record {
      learnt_now = learnt_now;
      more = more;
      says = says;
      changes = changes;
      seen = seen_then old new on Before learnt_now (saw_after began reply saw) held_now was floors
          (begun_sets None sets (λ plan is. (let gone : None ≡ Some plan = is in absurd (cc))));
    }

  -- ---- a read

  module _ (read : CheckedRead) (first : Begun) (p q : Reading) (is_plan : IsPlanOf old (of.Read p) (began_as (call.Read read) first))
      (holds : held_now number ≡ Some (Then (began_as (call.Read read) first))) where
    abbrev Began : Begun
    Began = began_as (call.Read read) first

    was_for : IsReadFor s old.keepers Began read p
    was_for = is_plan.under_way

    abbrev IsRight : Reply → Type 0
    IsRight ended = (answer : ReadReply) → ended ≡ replied.Called (called.Read answer) → ReadsRightly (types_of s.schema) Began read answer Now.logs

    -- it is over: its session has seen what it is answered
    read_over : q.query ≡ read.query → q.reader ≡ Some read.session → Now.logs ≡ Was.logs → EndsRefused q.at
        → ((ended : Reply) → EndsWith q ended → IsRight ended) → EndsPlan number (of.Read q) (held_in old.core) reply (held_in new.core) → StepKept Began
    read_over query reader logs so right ends =
        let replies = read_reply_is q ends.ended so ends.over in
        ends_so Began is_plan.grows is_plan.settled holds learnt ends.takes.sets nothing_more
        (said_floors Began number reply ends.ended learnt saw new.core.sessions ends.said
        (read_floors (pens_of new.core.fleet.stores) first read q ends.ended old.core.sessions new.core.sessions learnt saw query reader replies ends.learns
        was.learnt))
        (subst (λ r. SaysOfCall (types_of s.schema) Began Was.logs r (After Began learnt)) (sym ends.said)
        (held_read_says (types_of s.schema) first read Was.logs (After Began learnt) ends.ended replies logs (right ends.ended ends.over) number)) logs

    -- ---- it ends in place of its next stage

    module _ (gives : EndsRead read_has_no_room p (world_of old) q (world_of new)) where
      at_end : q.at ≡ Ended (ended.Refused read_has_no_room)
      at_end = end_refused read_has_no_room p q (world_of old) (world_of new) gives

      never_right : (ended : Reply) → EndsWith q ended → IsRight ended
      never_right ended over answer is =
          let own : ended ≡ read_has_no_room = subst (λ a. EndsAt a q ended) at_end over in
          let never : replied.Called (called.Read answer) ≡ read_has_no_room = sym is ∙ own in
          absurd (cc (never))

      pub read_gives_up : Leaves asked (numbered_plan number (of.Read q)) (next_stage (of.Read q)) (held_in old.core) reply (held_in new.core) → StepKept Began
      read_gives_up leaves =
          let over : next_stage (of.Read q) ≡ None = subst (λ a. stage_named (stage_of a) ≡ None) (sym at_end) refl in
          read_over (ap (λ (r : Reading). r.query) gives.then ∙ was_for.query_is) (ap (λ (r : Reading). r.reader) gives.then ∙ was_for.reader_is)
          (ap (λ (x : World). (stores_in s x.keepers.told).logs) gives.rest)
          (end_refuses read_has_no_room p q (world_of old) (world_of new) gives (_, refl)) never_right
          (subst (λ next. Leaves asked (numbered_plan number (of.Read q)) next (held_in old.core) reply (held_in new.core)) over leaves)

    -- ---- its next stage

    module _ (under : IsReadUnderWay true s old.keepers.told old.core.fleet p)
        (steps : StepsReadAlone (rules_of true s) p (world_of old) q (world_of new)) where
      logs : Now.logs ≡ Was.logs
      logs = same_logs s old.keepers new.keepers steps.tables

      same_read : IsSameRead p q
      same_read = read_same p q (world_of old) (world_of new) (rules_of true s) steps.steps.does

      version_stays : version_now s p old.keepers ≡ version_now s q new.keepers
      version_stays =
          let tables : new.keepers.told ≡ old.keepers.told = λ i at. steps.tables refl at i in
          sym (ap (λ query. version (master_log s new.keepers.told (query_shard query)) (query_key query)) same_read.query
          ∙ ap (λ t. version (master_log s t (query_shard p.query)) (query_key p.query)) tables)

      -- after a settle, until a log grows, no stage misses anything
      last_then : HasLast s new.keepers Began.settled q
      last_then settled_logs since same =
          let before : AreSameLogs settled_logs Was.logs = λ shard. ap (λ l. log_of l shard) (sym logs) ∙ same shard in
          let come = (stages_miss_nothing s p q (world_of old) (world_of new)).whole steps.steps on.before.is_consistent.consistent
          (is_plan.settled.rests settled_logs since before) on.after.grows.logs (version_now s p old.keepers) (was_for.last settled_logs since before) in
          subst (λ n. HasComeTo n (version_now s q new.keepers) q.at) version_stays come

      for_then : IsReadFor s new.keepers Began read q
      for_then = read_steps s p q (world_of old) (world_of new) Began read was_for last_then steps

      -- what its lines add is nothing to a read
      for_later : IsReadFor s new.keepers (Then Began) read q
      for_later = record {
        query_is = for_then.query_is;
        critical_is = for_then.critical_is;
        floor_is = for_then.floor_is;
        reader_is = for_then.reader_is;
        whole = for_then.whole;
        last = for_then.last;
      }

      so : EndsRefused q.at
      so = stage_refuses (rules_of true s) p q (world_of old) (world_of new) steps.steps.does

      here : query_shard q.query < s.shards
      here = subst (λ query. query_shard query < s.shards) (sym same_read.query) under.follower.here

      right : (ended : Reply) → EndsWith q ended → IsRight ended
      right ended over answer is =
          let ends = subst (EndsWith q) is over in
          let legal = (steps.steps.legal answer ends).0 in
          record {
            legal = answer_legal s new.keepers Began read q for_then here so answer ends legal;
            whole = answer_whole s new.keepers Began read q for_then here so answer ends;
            last = answer_last s new.keepers Began read q for_then here so answer ends legal;
          }

      pub read_kept : (next : Option Stage) → Leaves asked (numbered_plan number (of.Read q)) next (held_in old.core) reply (held_in new.core)
          → StepKept Began
      read_kept (Some stage) goes = goes_so Began is_plan.grows is_plan.settled holds (of.Read q) stage goes for_later logs
      read_kept None ends = read_over for_then.query_is for_then.reader_is logs so right ends

  -- ---- a write

  module _ (write : CheckedWrite) (first : Begun) (p q : Writing) (is_plan : IsPlanOf old (of.Write p) (began_as (call.Write write) first))
      (holds : held_now number ≡ Some (Then (began_as (call.Write write) first)))
      (under : IsWriteUnderWay true s old.keepers.told old.core.fleet p) (ahead : IsBefore p.back) (some : IsSome (next_stage (of.Write p)))
      (does : AdvancesWrite s p (world_of old) q (world_of new)) where
    abbrev BeganWrite : Begun
    BeganWrite = began_as (call.Write write) first

    write_was : IsWriteFor s old.keepers BeganWrite write p
    write_was = is_plan.under_way

    entry_stands : (entry : Option Entry) → HasWritten s Was BeganWrite write entry → IfSome entry (StandsFor Was.logs (write_of write))
    entry_stands None had = tt
    entry_stands (Some e) stood = stood

    so_far : WritesSoFar s BeganWrite write Was.logs p old.keepers
    so_far = record {
      for_call = write_was;
      ran = ran_begins (types_of s.schema) Was.logs (write_of write) p.committed p.job
          (IfSome_then p.committed write_was.answered (λ c answered. entry_stands c.wrote.entry answered.written));
      adds = adds_same Was.logs Was.logs (learnt_of_write p) refl;
      refused = subst (λ r. IfSome r (IsRefusedSo Was.logs write Was.logs)) (sym (unrefused p.refused p.committed p.job p.back some)) tt;
    }

    write_keeps : KeepsStage s old.keepers new.keepers
    write_keeps = record { grows = grows_then old new on; was = on.before.is_consistent.consistent.stores.kept refl; now = kept_then old new on }

    -- only before its last stage may it end without it
    given_so : (at : WriteStage) → next_of p ≡ at → IsSome (writer_at at p.origin) → GivesUpWrite p q (world_of old) (world_of new)
        → WritesSoFar s BeganWrite write Was.logs q new.keepers
    given_so Apply at last gives =
        let logs : Now.logs ≡ Was.logs = ap (λ (x : World). (stores_in s x.keepers.told).logs) gives.same in
        gives_up_on s p q (world_of old) (world_of new) BeganWrite write Was.logs so_far write_keeps logs gives.gone
    given_so Commit at last gives = absurd (cc)
    given_so Inverse at last gives = absurd (cc)
    given_so End at last gives = absurd (cc)
    given_so Relay at last gives = absurd (cc)
    given_so Done at last gives = absurd (cc)

    so_by : AdvancesWrite s p (world_of old) q (world_of new) → WritesSoFar s BeganWrite write Was.logs q new.keepers
    so_by (inl stage) = writes_on s p q (world_of old) (world_of new) BeganWrite write Was.logs so_far write_keeps under is_plan.grows stage
    so_by (inr gives) = given_so (next_of p) refl gives.last gives

    write_so : WritesSoFar s BeganWrite write Was.logs q new.keepers
    write_so = so_by does

    write_changes : CallsAlone (types_of s.schema) (call.Write write) Was Now.logs
    write_changes = ran_alone (types_of s.schema) Was.logs (write_of write) Now.logs q.committed q.job write_so.ran

    -- the moment at which it began is the same
    written_on : (entry : Option Entry) → HasWritten s Now BeganWrite write entry → HasWritten s Now (Then BeganWrite) write entry
    written_on None had = record { n = had.n; since = had.since; within = had.within; nothing = had.nothing }
    written_on (Some e) stood = stood

    answered_on : (c : Committed) → IsAnsweredFor s Now BeganWrite write q.job c → IsAnsweredFor s Now (Then BeganWrite) write q.job c
    answered_on c is = record { kind_is = is.kind_is; written = written_on c.wrote.entry is.written; job = is.job }

    write_later : IsWriteFor s new.keepers (Then BeganWrite) write q
    write_later = record {
      write_is = write_so.for_call.write_is;
      origin_is = write_so.for_call.origin_is;
      answered = IfSome_then q.committed write_so.for_call.answered answered_on;
      added = each_learnt s BeganWrite write Was.logs q new.keepers write_so;
      due = write_so.for_call.due;
    }

    few_here : IfSome (learnt_here q) (λ t. HasFewTouches t.shard t.entry)
    few_here = here_few s BeganWrite write Was.logs q new.keepers write_so (kept_then old new on)

    far_by : next_stage (of.Write q) ≡ None → q.refused ≡ None → AdvancesWrite s p (world_of old) q (world_of new)
        → IfSome (learnt_far (answered_job q) q.other) (λ t. HasFewTouches t.shard t.entry)
    far_by over open_still (inl stage) = far_few s p q (world_of old) (world_of new) ahead over open_still
        (others_few s old.keepers.told old.core.fleet p on.before.is_consistent.masters on.before.is_consistent.consistent.stores under)
        (λ none. (under.begun none).1) stage
    far_by over open_still (inr gives) =
        (let e : None ≡ Some _ = sym open_still ∙ ap (λ (x : Writing). x.refused) gives.gone in absurd (cc))

    few_learnt : (ended : Reply) → next_stage (of.Write q) ≡ None → IsRefusedSo Was.logs write Now.logs ended ⊎ WasDone q ended
        → AreFewLearnt (learnt_with ended (of.Write q))
    few_learnt ended over (inl refused) = subst (λ r. AreFewLearnt (learnt_with r (of.Write q))) (sym refused.1) (record { here = tt; other = tt })
    few_learnt ended over (inr done) = few_with ended q (record {
      here = few_here;
      other = far_by over done.unrefused does;
    })

    pub write_kept : (next : Option Stage) → next_stage (of.Write q) ≡ next
        → Leaves asked (numbered_plan number (of.Write q)) next (held_in old.core) reply (held_in new.core) → StepKept BeganWrite
    write_kept (Some stage) next goes =
        goes_so BeganWrite is_plan.grows is_plan.settled holds (of.Write q) stage goes write_later write_changes
    write_kept None over ends =
        let ended = ends.ended in
        let told = learnt_with ended (of.Write q) in
        let who = author q.origin in
        let replies = write_reply_is s BeganWrite write Was.logs q new.keepers write_so ended ends.over in
        let learnt_now = learnt_after who told learnt in
        let saw_now = saw_after BeganWrite reply saw in
        ends_so BeganWrite is_plan.grows is_plan.settled holds learnt_now ends.takes.sets (learnt_grows who told learnt)
        (write_floors learnt_now saw new.core.sessions
        (learns_both who told old.core.sessions new.core.sessions learnt saw (few_learnt ended over replies) ends.learns was.learnt) first write reply)
        (subst (λ r. SaysOfCall (types_of s.schema) BeganWrite Was.logs r (After BeganWrite learnt_now)) (sym ends.said)
        (held_write_says s old.keepers.told new.keepers.told first write learnt_now saw_now held_now settled q ended
        (λ c committed_is unrefused reply_is. acknowledged s BeganWrite write Was.logs q new.keepers write_so over c committed_is unrefused
        learnt_now saw_now held_now settled (has_all_learnt s BeganWrite write Was.logs q new.keepers write_so ended learnt c reply_is))
        number replies)) write_changes

  -- ---- whatever the call

  kept_by : (one : CheckedCall) (first : Begun) (before after : HeldPlan) → IsPlanOf old before (began_as one first)
      → held_now number ≡ Some (Then (began_as one first)) → IsUnderWay true s old.keepers.told old.core.fleet before → OpensFirst before
      → IsSome (next_stage before) → Advances (rules_of true s) before (world_of old) after (world_of new)
      → Leaves asked (numbered_plan number after) (next_stage after) (held_in old.core) reply (held_in new.core) → StepKept (began_as one first)
  kept_by (call.Read read) first (of.Read p) (of.Read q) is_plan holds under ahead some (inl steps) leaves =
      read_kept read first p q is_plan holds under steps (next_stage (of.Read q)) leaves
  kept_by (call.Read read) first (of.Read p) (of.Read q) is_plan holds under ahead some (inr ends) leaves =
      read_gives_up read first p q is_plan holds ends.gives leaves
  kept_by (call.Write write) first (of.Write p) (of.Write q) is_plan holds under ahead some (inl steps) leaves =
      write_kept write first p q is_plan holds under ahead some (inl steps) (next_stage (of.Write q)) refl leaves
  kept_by (call.Write write) first (of.Write p) (of.Write q) is_plan holds under ahead some (inr ends) leaves =
      write_kept write first p q is_plan holds under ahead some (inr (record { last = ends.last; gone = ends.gives.0; same = ends.gives.1 }))
      (next_stage (of.Write q)) refl leaves
  kept_by one first (of.Read p) (of.Write q) is_plan holds under ahead some (inl steps) leaves = absurd steps
  kept_by one first (of.Write p) (of.Read q) is_plan holds under ahead some (inl steps) leaves = absurd steps
  kept_by one first (of.Read p) (of.Write q) is_plan holds under ahead some (inr ends) leaves = absurd ends.gives
  kept_by one first (of.Write p) (of.Read q) is_plan holds under ahead some (inr ends) leaves = absurd ends.gives
  kept_by (call.Read read) first (of.Write p) (of.Write q) is_plan holds under ahead some steps leaves = absurd is_plan.under_way
  kept_by (call.Write write) first (of.Read p) (of.Read q) is_plan holds under ahead some steps leaves = absurd is_plan.under_way

  pub step_kept : (steps : StepsAt true asked number old reply new) (began : Begun) → IsPlanOf old steps.before began
      → held_now number ≡ Some (Then began) → StepKept began
  step_kept steps began is_plan holds =
      kept_by began.call began steps.before steps.after is_plan holds (on.before.plans.under_way number steps.before steps.stands)
      (on.before.plans.begun number steps.before steps.stands)
      (on.before.plans.goes_on number steps.before steps.stands) steps.steps steps.leaves
