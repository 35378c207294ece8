-- What a write that isn't held does to the histories, and why its inverse is only scheduled, by what its reply says.
use Rattle.std.proofs.Common.{◌≡◌, ◌∙◌, ℕ, zero, suc, Bool, true, false, [], Option, Some, None, refl, sym, ap, subst, inl, inr}
use Rattle.std.proofs.Common.{arith}
use Rattle.std.specs.Prelude.{◌⊎◌, IfSome, option_and_then}
use Rattle.core_model.proofs.Places.{one_some}
use Rattle.core_model.specs.Jobs.{CanBeMerged, job_on}
use Rattle.core_model.specs.Stores.{stores_in}
use Rattle.core_plans.proofs.WholeRuns.{OfWrite, write_keeps}
use Rattle.core_plans.specs.Held.{IsOver, IsUnderWay}
use Rattle.core_plans.proofs.InTurn.{IsSameWrite, write_same}
use Rattle.core_plans.specs.HeldWrites.{call_of_plan}
use Rattle.core_plans.specs.LedBy.{Rules, rules_of}
use Rattle.core_plans.specs.WholeCalls.{CarriesOut, PassesStage}
use Rattle.core_plans.specs.declared.held.HeldPlan.{HeldPlan}
use Rattle.core_plans.specs.declared.held.HeldPlan.TheVariants as of
use Rattle.core_sessions.specs.Sessions.{Session}
use Rattle.core_steps.specs.World.{World}
use Rattle.core_steps.specs.Writes.{StepsAs, asked_of_log}
use Rattle.graph_model.specs.Log.{entry_at}
use Rattle.node_name.specs.declared.NodeName.{NodeName}
use Rattle.plain_promise.specs.Promise.{Begun, HasEachOnce, Logs, refused_at}
use Rattle.promise_kept.proofs.AtOnce.{WritesThrough, write_begins, writes_at_once}
use Rattle.promise_kept.proofs.CallLines.{RefusesUnbegun, not_begun}
use Rattle.promise_kept.proofs.Commits.{next_position, write_of}
use Rattle.promise_kept.proofs.Entries.{each_once}
use Rattle.promise_kept.proofs.Going.{grows_same}
use Rattle.promise_kept.proofs.Requests.{can_be_done}
use Rattle.promise_kept.proofs.WriteEnds.{WasDone, write_reply_is}
use Rattle.promise_kept.proofs.WriteStages.{Ran, RanBy, RanEntry, RefusesHere, WritesSoFar}
use Rattle.promise_kept.specs.Seen.{HasJobOf, HasWritten, IsAnsweredFor, stores_at}
use Rattle.replies.specs.declared.calls.CallReply.TheVariants as called
use Rattle.replies.specs.declared.calls.InverseEnd.{InverseEnd}
use Rattle.replies.specs.declared.calls.ScheduledWhy.{ScheduledWhy}
use Rattle.replies.specs.declared.calls.WriteReply.{WriteReply}
use Rattle.replies.specs.declared.calls.Written.{Written}
use Rattle.replies.specs.declared.refusals.Refusal.{Refusal}
use Rattle.replies.specs.declared.refusals.Refusal.TheVariants.{Memory}
use Rattle.replies.specs.declared.reply.Reply.{Reply}
use Rattle.replies.specs.declared.reply.Reply.TheVariants.{Called, Refused}
use Rattle.request_check.specs.declared.checked.Checked.TheVariants as asked
use Rattle.request_check.specs.declared.checked.CheckedCall.TheVariants as call
use Rattle.request_check.specs.declared.checked.CheckedWrite.{CheckedWrite}
use Rattle.requests.specs.declared.request.Request.{Request}
use Rattle.shard_tables.specs.Written.{AskedWrite}
use Rattle.tao_base.specs.EdgeTypes.{EdgeTypes}
use Rattle.tao_base.specs.Writes.{write_shard}
use Rattle.tao_base.specs.declared.entry.Entry.{Entry}
use Rattle.tao_base.specs.declared.entry.Origin.TheVariants.{Client}
use Rattle.tao_base.specs.declared.write.Write.{Write}
use Rattle.tao_core.proofs.HeldBegun.{is_under_way}
use Rattle.tao_core.specs.Calls.{world_of}
use Rattle.tao_core.specs.Core.{IsCoreOf, Moment}
use Rattle.tao_core.specs.HeldCalls.{AnswersCall, CallGoes}
use Rattle.tao_core.specs.Replies.{AnswersAsked, AnswersRequest}
use Rattle.tao_keeper.specs.declared.jobs.Job.{Job}
use Rattle.tao_schema.specs.Schema.{types_of}
use Rattle.topology.specs.Config.{Settings}
use Rattle.write_model.proofs.Growing.{entry_at-within}
use Rattle.write_model.specs.Machine.{ClientWrite, LeavesEntry, Repeats, StandsFor}
use Rattle.write_model.specs.Merges.{Stores, log_of}
use Rattle.write_plan.specs.Plans.{Writing, answered_job, begun_write, has_other, inverse_said, reply_of, written_by}
use Rattle.write_plan.specs.declared.committed.Committed.{Committed}
use Rattle.write_plan.specs.declared.progress.OtherEnd.{OtherEnd}
use Rattle.write_plan.specs.declared.progress.OtherEnd.TheVariants.{Due, Ended, Merged, Open}
use Rattle.headline_kept.specs.Headline.{IsAnswered}
use Rattle.headline_kept.specs.Machine.{BetweenLogs, LeavesAt, RepeatsAt, above_zero, said_position}
use Rattle.headline_kept.specs.Scheduled.{IsScheduled, why_scheduled}
use Rattle.headline_kept.specs.Standing.{Asks}
use Rattle.headline_kept.proofs.Acknowledged.{said_entry}
use Rattle.headline_kept.proofs.HeldJobs.{IsAnsweredSo, answered_so, left_open_by}
use Rattle.headline_kept.proofs.LeftOpen.{WriteOpens, write_opened}
use Rattle.headline_kept.proofs.StageCauses.{was_unrefused}
use Rattle.headline_kept.proofs.WholeCauses.{Moves, WriteRuns, moves, write_runs}

-- ---- the entry of a write

module _ (types : EdgeTypes) (start : Logs) (w : ClientWrite) (now : Logs) where
  abbrev Leaves : Entry → Type 0
  Leaves e = (other : ℕ) × LeavesEntry types start now w e other

  -- where the logs are as they were
  leaves_same : (e : Entry) → now ≡ start → StandsFor now w e → Leaves e
  leaves_same e same stands = (0, inr (record { stood = subst (λ logs. StandsFor logs w e) same stands; merges = inl same }))

  ran_leaves : (e : Entry) (at : OtherEnd) → RanEntry types start w now e at → Leaves e
  ran_leaves e Due (inl rested) = (0, inr (record { stood = rested.1; merges = inl rested.0 }))
  ran_leaves e Due (inr commits) = (0, inl (record { between = now; commits = commits; merges = inl refl }))
  ran_leaves e Merged ran = ran
  ran_leaves e Ended ran = ran
  ran_leaves e (Open why) ran = ran

  -- that of the commit
  by_leaves : (entry : Option Entry) (at : OtherEnd) (e : Entry) → RanBy types start w now entry at → entry ≡ Some e → Leaves e
  by_leaves None at e ran is = absurd (cc)
  by_leaves (Some own) at e ran is = ran_leaves e at (subst (λ x. RanEntry types start w now x at) (one_some own e is) ran)

  entry_leaves : (committed : Option Committed) (at : OtherEnd) (e : Entry) → Ran types start w now committed at
      → option_and_then (λ (c : Committed). c.wrote.entry) committed ≡ Some e → Leaves e
  entry_leaves None at e ran is = absurd (cc)
  entry_leaves (Some c) at e ran is = by_leaves c.wrote.entry at e ran is

  module _ (once : HasEachOnce (log_of now w.shard)) where
    -- one entry alone is the write's
    same_entry : (d e : Entry) → StandsFor now w d → StandsFor now w e → d ≡ e
    same_entry d e one other =
        let at = once.once d.position e.position d e one.stands other.stands (one.origin_is ∙ sym other.origin_is) in
        one_some d e (sym one.stands ∙ ap (entry_at (log_of now w.shard)) at ∙ other.stands)

    -- an entry that stands for the write is that of the commit, or stood before
    by_stands : (entry : Option Entry) (at : OtherEnd) (e : Entry) → RanBy types start w now entry at → IfSome entry (StandsFor now w) → StandsFor now w e
        → Leaves e
    by_stands None at e ran own stands = leaves_same e ran stands
    by_stands (Some d) at e ran own stands = ran_leaves e at (subst (λ x. RanEntry types start w now x at) (same_entry d e own stands) ran)

    stands_leaves : (committed : Option Committed) (at : OtherEnd) (e : Entry) → Ran types start w now committed at
        → IfSome committed (λ (c : Committed). IfSome c.wrote.entry (StandsFor now w)) → StandsFor now w e → Leaves e
    stands_leaves None at e ran own stands = leaves_same e ran stands
    stands_leaves (Some c) at e ran own stands = by_stands c.wrote.entry at e ran own stands

  -- an entry that stood before, and that the write left, wasn't written by it
  repeated : (e : Entry) → entry_at (log_of start w.shard) e.position ≡ Some e → Leaves e → (other : ℕ) × Repeats types start now w e other
  repeated e stood (other, inr repeats) = (other, repeats)
  repeated e stood (other, inl writes) =
      let within = entry_at-within (log_of start w.shard) e.position e stood in
      let next = next_position _ _ _ _ e writes.commits.is in
      absurd (omega (arith, within, next))

-- ---- an entry that is said to have stood

retry_of : (retry : Bool) (told : InverseEnd) (entry : Option Entry) → (written_by retry told entry).retry ≡ retry
retry_of retry told None = refl
retry_of retry told (Some e) = refl

position_of : (retry : Bool) (told : InverseEnd) (entry : Option Entry) (e : Entry) → entry ≡ Some e → (written_by retry told entry).position ≡ e.position
position_of retry told None e is = absurd (cc)
position_of retry told (Some own) e is = ap (λ (x : Entry). x.position) (one_some own e is)

-- what a commit says with `retry` stood in the logs before it
stood_by : (asked : AskedWrite) (retry : Bool) (entry : Option Entry) (shard : ℕ) (old new : Stores) → StepsAs asked retry entry shard old new → retry ≡ true
    → (e : Entry) × (entry ≡ Some e) × (entry_at (log_of old.logs shard) e.position ≡ Some e)
stood_by asked true (Some e) shard old new steps is = (e, refl, steps.0.stood.stands)
stood_by asked true None shard old new steps is = absurd steps
stood_by asked false entry shard old new steps is = absurd (cc)

module _ (s : Settings) (start : World) (p0 : Writing) where
  abbrev StoodIn : World → Writing → Committed → Type 0
  StoodIn at p c = c.wrote.retry ≡ true → (e : Entry) × (c.wrote.entry ≡ Some e)
      × (entry_at (log_of (stores_in s at.keepers.told).logs (write_shard p.write)) e.position ≡ Some e)

  -- a write that began there: before its commit nothing was done, and an entry that the commit told as one that stood did so at the beginning
  pub record Retries (q : Writing) (now : World) : Type 0 where
    first : q.refused ≡ None → q.committed ≡ None → now ≡ start
    write : q.write ≡ p0.write
    stood : IfSome q.committed (StoodIn start p0)

  retries_on : (p q : Writing) (old new : World) → Retries p old → PassesStage (rules_of true s) (of.Write p) old (of.Write q) new → Retries q new
  retries_on p q old new so stage = by (moves (rules_of true s) p q old new stage.steps)
    where
      same : IsSameWrite p q
      same = write_same p q old new (rules_of true s) stage.steps

      never : p.refused ≡ None
      never = was_unrefused (rules_of true s) p q old new stage.steps

      by : Moves (rules_of true s) p q old new → Retries q new
      by (inl rests) = record {
        first = λ unrefused none. absurd (rests.first (sym rests.committed ∙ none) unrefused);
        write = same.write ∙ so.write;
        stood = subst (λ c. IfSome c (StoodIn start p0)) (sym rests.committed) so.stood;
      }
      by (inr did) =
          let c = did.commits.committed in
          let answered : q.committed ≡ Some c = ap (λ (r : Writing). r.committed) did.commits.then in
          let here : StoodIn old p c = stood_by (asked_of_log s old.keepers (call_of_plan p)) c.wrote.retry c.wrote.entry (write_shard p.write)
          (stores_in s old.keepers.told) (stores_in s new.keepers.told) (did.commits.commits.commits.step refl) in
          record {
            first = λ unrefused none. (let no : None ≡ Some c = sym none ∙ answered in absurd (cc));
            write = same.write ∙ so.write;
            stood = subst (λ o. IfSome o (StoodIn start p0)) (sym answered)
                (subst (λ (w : Write). c.wrote.retry ≡ true → (e : Entry) × (c.wrote.entry ≡ Some e)
                × (entry_at (log_of (stores_in s start.keepers.told).logs (write_shard w)) e.position ≡ Some e)) so.write
                (subst (λ (x : World). StoodIn x p c) (so.first never did.none) here));
          }

  write_retries : (q : HeldPlan) (new : World) → p0.committed ≡ None → CarriesOut (rules_of true s) (of.Write p0) start q new → OfWrite Retries q new
  write_retries q new none out =
      write_keeps (rules_of true s) Retries retries_on out.stages p0 q start new
      (record { first = λ unrefused uncommitted. refl; write = refl; stood = subst (λ o. IfSome o (StoodIn start p0)) (sym none) tt })
      out.passes

-- ---- a write that isn't held, over keepers that tell their tables

above : (n position : ℕ) → above_zero n ≡ Some position → n ≡ position
above zero position is = absurd (cc)
above (suc n) position is = one_some (suc n) position is

-- a refusal at a position tells the entry that stands there
refused_entry : (start : Logs) (write : CheckedWrite) (now : Logs) (n position : ℕ) → above_zero n ≡ Some position → RefusesHere start write now n
    → (e : Entry) × StandsFor now (write_of write) e × (e.position ≡ position)
refused_entry start write now zero position is here = absurd (cc)
refused_entry start write now (suc n) position is here = (here.0, here.1, here.2 ∙ one_some (suc n) position is)

module _ (s : Settings) (began : Begun) (write : CheckedWrite) (start : Logs) (q : Writing) (end : World)
    (through : WritesThrough s began write start q end) (reply : Reply) (over : reply_of q ≡ Some reply) where
  abbrev types : EdgeTypes
  types = types_of s.schema

  abbrev now : Logs
  now = (stores_in s end.keepers.told).logs

  abbrev w : ClientWrite
  w = write_of write

  so : WritesSoFar s began write start q end.keepers
  so = through.so

  once : HasEachOnce (log_of now w.shard)
  once = each_once (log_of now w.shard) ((through.are.stores.kept refl).sound w.shard).sound

  written_for : (committed : Option Committed) → IfSome committed (IsAnsweredFor s (stores_in s end.keepers.told) began write q.job)
      → IfSome committed (λ (c : Committed). IfSome c.wrote.entry (StandsFor now w))
  written_for None answered = tt
  written_for (Some c) answered = by c.wrote.entry answered.written
    where
      by : (entry : Option Entry) → HasWritten s (stores_in s end.keepers.told) began write entry → IfSome entry (StandsFor now w)
      by None had = tt
      by (Some e) stood = stood

  leaves_at : (position : ℕ) (e : Entry) → Leaves types start w now e → e.position ≡ position → LeavesAt types start now w position
  leaves_at position e leaves is = record { entry = e; other = leaves.0; leaves = leaves.1; position_is = is }

  refused_leaves : (position : ℕ) (refusal : Refusal) → reply ≡ Refused refusal → RefusesHere start write now (refused_at refusal)
      → said_position reply ≡ Some position → LeavesAt types start now w position
  refused_leaves position refusal is here told =
      let entry = refused_entry start write now (refused_at refusal) position (subst (λ r. said_position r ≡ Some position) is told) here in
      leaves_at position entry.0
      (stands_leaves types start w now once q.committed q.job entry.0 so.ran (written_for q.committed so.for_call.answered) entry.1) entry.2

  done_leaves : (position : ℕ) (done : WasDone q reply) → said_position reply ≡ Some position → LeavesAt types start now w position
  done_leaves position done told =
      let c = done.c in
      let entry = said_entry c.wrote.retry (inverse_said (has_other c) q.job) c.wrote.entry position
      (subst (λ r. said_position r ≡ Some position) done.reply_is told) in
      leaves_at position entry.0
      (entry_leaves types start w now q.committed q.job entry.0 so.ran
      (ap (λ o. option_and_then (λ (c : Committed). c.wrote.entry) o) done.committed_is ∙ entry.1)) entry.2

  pub said_leaves : (position : ℕ) → said_position reply ≡ Some position → LeavesAt types start now w position
  said_leaves position told = elim (write_reply_is s began write start q end.keepers so reply over) [
    | inl refused ↦ refused_leaves position refused.0 refused.1 refused.2 told
    | inr done ↦ done_leaves position done told
  ]

  -- a retry
  module _ (first : World) (p0 : Writing) (from : start ≡ (stores_in s first.keepers.told).logs) (write_is : p0.write ≡ write.write)
      (retries : Retries s first p0 q end) (told : WriteReply) (is : reply ≡ Called (called.Write told)) (again : told.written.retry ≡ true) where
    abbrev answered : IsAnsweredSo q.refused q.committed q.job told
    answered = answered_so _ q.refused q.committed q.job q.hops told so.refused (over ∙ ap Some is)

    abbrev c : Committed
    c = answered.c

    stood : (e : Entry) × (c.wrote.entry ≡ Some e) × (entry_at (log_of start w.shard) e.position ≡ Some e)
    stood =
        let has = subst (λ o. IfSome o (StoodIn s first p0 first p0)) answered.committed_is retries.stood in
        let said = sym (retry_of c.wrote.retry (inverse_said (has_other c) q.job) c.wrote.entry) ∙ ap (λ (x : Written). x.retry) (sym answered.written_is) ∙ again in
        let found = has said in (
          found.0,
          found.1,
          subst (λ (logs : Logs). entry_at (log_of logs w.shard) found.0.position ≡ Some found.0) (sym from)
              (subst (λ (x : Write). entry_at (log_of (stores_in s first.keepers.told).logs (write_shard x)) found.0.position ≡ Some found.0) write_is found.2),
        )

    pub retry_repeats : RepeatsAt types start now w told.written.position
    retry_repeats =
        let e = stood.0 in
        let leaves = entry_leaves types start w now q.committed q.job e so.ran
        (ap (λ o. option_and_then (λ (c : Committed). c.wrote.entry) o) answered.committed_is ∙ stood.1) in
        let repeats = repeated types start w now e stood.2 leaves in
        record {
          entry = e;
          other = repeats.0;
          repeats = repeats.1;
          position_is = sym (ap (λ (x : Written). x.position) answered.written_is
              ∙ position_of c.wrote.retry (inverse_said (has_other c) q.job) c.wrote.entry e stood.1);
        }

  -- the position of a job that is left open
  module _ (told : WriteReply) (why : ScheduledWhy) (is : reply ≡ Called (called.Write told)) (scheduled : why_scheduled told.written.inverse ≡ Some why)
      (job : Job) (answered : answered_job q ≡ Some job) where
    pub job_position : job.position ≡ told.written.position
    job_position =
        let so_told = answered_so _ q.refused q.committed q.job q.hops told so.refused (over ∙ ap Some is) in
        let c = so_told.c in
        let inverse_is = inverse_said (has_other c) q.job in
        let has = subst (λ o. IfSome o (IsAnsweredFor s (stores_in s end.keepers.told) began write q.job)) so_told.committed_is so.for_call.answered in
        let own = ap (λ o. option_and_then (λ (c : Committed). c.wrote.job) o) (sym so_told.committed_is) ∙ answered in
        by c.wrote.retry inverse_is c.wrote.entry c.wrote.job has.job own
        (subst (λ (x : Written). why_scheduled x.inverse ≡ Some why) so_told.written_is scheduled)
        ∙ ap (λ (x : Written). x.position) (sym so_told.written_is)
      where
        by : (retry : Bool) (said : InverseEnd) (entry : Option Entry) (owed : Option Job) → HasJobOf s (stores_in s end.keepers.told) q.job owed entry
            → owed ≡ Some job → why_scheduled (written_by retry said entry).inverse ≡ Some why → job.position ≡ (written_by retry said entry).position
        by retry said None owed has own told_so = absurd (cc)
        by retry said (Some e) owed has own told_so = subst (λ o. IfSome o (λ (j : Job). j.position ≡ e.position)) own has.position_is

-- ---- a line

-- the call as it begins: of what its session has learnt nothing is said here
abbrev began_at : Moment → CheckedWrite → Begun
began_at old write =
    record { call = call.Write write; logs = (stores_at old).logs; learnt = []; seen = []; settled = None; added = [] }

-- the plan of a write that isn't held, of which nothing is done
abbrev begun_at : CheckedWrite → Session → NodeName → Writing
begun_at write session follower = begun_write write.write (Client write.session write.seq) session.region session.tier follower

module _ (old : Moment) (request : Request) (reply : Reply) (new : Moment) (write : CheckedWrite) (asks : Asks old request (asked.Call (call.Write write)))
    (core : IsCoreOf true old.keepers.told old.core) (goes : CallGoes true (call.Write write) old reply new) where
  abbrev s : Settings
  s = old.core.settings

  abbrev p0 : Writing
  p0 = begun_at write goes.begun.session goes.begun.follower

  carries : CarriesOut (rules_of true s) (of.Write p0) (world_of old) goes.does.after (world_of new)
  carries = subst (λ plan. CarriesOut (rules_of true s) plan (world_of old) goes.does.after (world_of new)) goes.begun.plan_is goes.does.carries

  begins : WritesThrough s (began_at old write) write (stores_at old).logs p0 (world_of old)
  begins = record {
    so = write_begins s old.keepers (began_at old write) write p0 refl refl refl refl refl refl;
    under = subst (IsUnderWay true s old.keepers.told old.core.fleet) goes.begun.plan_is
        (is_under_way true old.keepers old.core core.is_consistent (call.Write write) goes.plan goes.begun
        (can_be_done old request (asked.Call (call.Write write)) asks));
    are = core.is_consistent.consistent;
    grew = grows_same (stores_at old).logs (stores_at old).logs refl;
  }

  goes_through : OfWrite (WritesThrough s (began_at old write) write (stores_at old).logs) goes.does.after (world_of new)
  goes_through = writes_at_once s (began_at old write) write (stores_at old).logs p0 (world_of old) goes.does.after (world_of new) begins carries

  retried : OfWrite (Retries s (world_of old) p0) goes.does.after (world_of new)
  retried = write_retries s (world_of old) p0 goes.does.after (world_of new) refl carries

  -- what the keepers tell after it, by the settings as they were
  abbrev Now : Logs
  Now = (stores_in s new.keepers.told).logs

  leaves_by : (after : HeldPlan) (position : ℕ) → OfWrite (WritesThrough s (began_at old write) write (stores_at old).logs) after (world_of new)
      → IsOver after reply → said_position reply ≡ Some position → LeavesAt (types_of s.schema) (stores_at old).logs Now (write_of write) position
  leaves_by (of.Write q) position through over told =
      said_leaves s (began_at old write) write (stores_at old).logs q (world_of new) through reply over position told
  leaves_by (of.Read q) position through over told = absurd through

  goes_leaves : (position : ℕ) → said_position reply ≡ Some position → LeavesAt (types_of s.schema) (stores_at old).logs Now (write_of write) position
  goes_leaves position told = leaves_by goes.does.after position goes_through goes.does.over told

  module _ (told : WriteReply) (is : reply ≡ Called (called.Write told)) where
    retry_by : (after : HeldPlan) → OfWrite (WritesThrough s (began_at old write) write (stores_at old).logs) after (world_of new)
        → OfWrite (Retries s (world_of old) p0) after (world_of new) → IsOver after reply → told.written.retry ≡ true
        → RepeatsAt (types_of s.schema) (stores_at old).logs Now (write_of write) told.written.position
    retry_by (of.Write q) through retries over again =
        retry_repeats s (began_at old write) write (stores_at old).logs q (world_of new) through reply over (world_of old) p0 refl refl retries told is again
    retry_by (of.Read q) through retries over again = absurd through

    goes_repeats : told.written.retry ≡ true → RepeatsAt (types_of s.schema) (stores_at old).logs Now (write_of write) told.written.position
    goes_repeats again = retry_by goes.does.after goes_through retried goes.does.over again

    position_by : (after : HeldPlan) (q : Writing) (why : ScheduledWhy) (job : Job) → after ≡ of.Write q
        → OfWrite (WritesThrough s (began_at old write) write (stores_at old).logs) after (world_of new) → IsOver after reply
        → why_scheduled told.written.inverse ≡ Some why → answered_job q ≡ Some job → job.position ≡ told.written.position
    position_by after q why job same through over scheduled answered =
        job_position s (began_at old write) write (stores_at old).logs q (world_of new)
        (subst (λ plan. OfWrite (WritesThrough s (began_at old write) write (stores_at old).logs) plan (world_of new)) same through) reply
        (subst (λ plan. IsOver plan reply) same over) told why is scheduled job answered

    goes_position : (q : Writing) (why : ScheduledWhy) (job : Job) → goes.does.after ≡ of.Write q → why_scheduled told.written.inverse ≡ Some why
        → answered_job q ≡ Some job → job.position ≡ told.written.position
    goes_position q why job same scheduled answered = position_by goes.does.after q why job same goes_through goes.does.over scheduled answered

-- ---- whatever the line says

-- a call that isn't begun tells no position
unbegun_none : (reply : Reply) (position : ℕ) → RefusesUnbegun reply → said_position reply ≡ Some position → ⊥
unbegun_none reply position refused told =
    let at : above_zero (refused_at refused.refusal) ≡ Some position = subst (λ r. said_position r ≡ Some position) refused.reply_is told in
    absurd (cc (subst (λ n. above_zero n ≡ Some position) refused.position_is at))

-- nor has it an Ok reply
unbegun_called : (reply : Reply) (told : WriteReply) → RefusesUnbegun reply → reply ≡ Called (called.Write told) → ⊥
unbegun_called reply told refused is = absurd (cc (sym refused.reply_is ∙ is))

wants_unbegun : (reply : Reply) → reply ≡ Refused (Memory 0) → RefusesUnbegun reply
wants_unbegun reply is = record { refusal = Memory 0; reply_is = is; position_is = refl }

-- a call that is asked goes, or isn't begun
call_goes : (tells : Bool) (old : Moment) (request : Request) (reply : Reply) (new : Moment) (write : CheckedWrite) → IsAnswered tells old request reply new
    → Asks old request (asked.Call (call.Write write)) → CallGoes tells (call.Write write) old reply new ⊎ RefusesUnbegun reply
call_goes tells old request reply new write is asks = by is.answers
  where
    by_call : AnswersCall tells (call.Write write) old reply new → CallGoes tells (call.Write write) old reply new ⊎ RefusesUnbegun reply
    by_call (inl goes) = inl goes
    by_call (inr refuses) = inr (not_begun old.core.states old.core.sessions (call.Write write) reply refuses.refused)

    by : AnswersRequest tells old request reply new → CallGoes tells (call.Write write) old reply new ⊎ RefusesUnbegun reply
    by (inl wants) = inr (wants_unbegun reply wants.reply_is)
    by (inr answers) = by_call (subst (λ found. AnswersAsked tells old found reply new) asks answers)

-- by the settings as they are then
between : (Row : EdgeTypes → Logs → Logs → ClientWrite → ℕ → Type 0) (old new : Moment) (write : CheckedWrite) (position : ℕ)
    → new.core.settings ≡ old.core.settings
    → Row (types_of old.core.settings.schema) (stores_at old).logs (stores_in old.core.settings new.keepers.told).logs (write_of write) position
    → BetweenLogs Row old write position new
between Row old new write position same row =
    subst (λ (s : Settings). Row (types_of old.core.settings.schema) (stores_at old).logs (stores_in s new.keepers.told).logs (write_of write) position)
    (sym same) row

pub leaves_row : (tells : Bool) (old : Moment) (request : Request) (reply : Reply) (new : Moment) → IsAnswered tells old request reply new → tells ≡ true
    → (write : CheckedWrite) (position : ℕ) → Asks old request (asked.Call (call.Write write)) → said_position reply ≡ Some position
    → BetweenLogs LeavesAt old write position new
leaves_row false old request reply new is so write position asks told = absurd (cc)
leaves_row true old request reply new is so write position asks told = elim (call_goes true old request reply new write is asks) [
  | inl goes ↦
      between LeavesAt old new write position is.after.settings (goes_leaves old request reply new write asks is.before goes position told)
  | inr refused ↦ absurd (unbegun_none reply position refused told)
]

pub retry_row : (tells : Bool) (old : Moment) (request : Request) (reply : Reply) (new : Moment) → IsAnswered tells old request reply new → tells ≡ true
    → (write : CheckedWrite) (told : WriteReply) → Asks old request (asked.Call (call.Write write)) → reply ≡ Called (called.Write told)
    → told.written.retry ≡ true → BetweenLogs RepeatsAt old write told.written.position new
retry_row false old request reply new is so write told asks said again = absurd (cc)
retry_row true old request reply new is so write told asks said again = elim (call_goes true old request reply new write is asks) [
  | inl goes ↦
      between RepeatsAt old new write told.written.position is.after.settings
      (goes_repeats old request reply new write asks is.before goes told said again)
  | inr refused ↦ absurd (unbegun_called reply told refused said)
]

-- ---- an inverse that is scheduled

module _ (tells : Bool) (old : Moment) (request : Request) (reply : Reply) (new : Moment) (is : IsAnswered tells old request reply new)
    (write : CheckedWrite) (told : WriteReply) (why : ScheduledWhy) (asks : Asks old request (asked.Call (call.Write write)))
    (said : reply ≡ Called (called.Write told)) (scheduled : why_scheduled told.written.inverse ≡ Some why) where
  abbrev rules : Rules
  rules = rules_of tells old.core.settings

  -- where the keepers tell their tables
  position_said : (b : Bool) → b ≡ true → IsCoreOf b old.keepers.told old.core → (goes : CallGoes b (call.Write write) old reply new) (q : Writing) (job : Job)
      → goes.does.after ≡ of.Write q → answered_job q ≡ Some job → job.position ≡ told.written.position
  position_said false so core goes q job same answered = absurd (cc)
  position_said true so core goes q job same answered =
      goes_position old request reply new write asks core goes told said q why job same scheduled answered

  module _ (goes : CallGoes tells (call.Write write) old reply new) where
    abbrev own : Writing
    own = begun_at write goes.begun.session goes.begun.follower

    carried : CarriesOut rules (of.Write own) (world_of old) goes.does.after (world_of new)
    carried = subst (λ plan. CarriesOut rules plan (world_of old) goes.does.after (world_of new)) goes.begun.plan_is goes.does.carries

    scheduled_by : (after : HeldPlan) → goes.does.after ≡ after → OfWrite (WriteOpens rules (world_of old) own) after (world_of new)
        → OfWrite (WriteRuns rules (world_of old) own) after (world_of new) → IsOver after reply → IsScheduled tells old write told why new
    scheduled_by (of.Write q) same opened runs over =
        let answered = answered_so _ q.refused q.committed q.job q.hops told runs.fails (over ∙ ap Some said) in
        let left = opened.open_for why (left_open_by q.refused q.committed q.job told why answered scheduled) in
        record {
          session = goes.begun.session;
          found = goes.begun.found;
          job = left.0;
          position_is = λ so. position_said tells so is.before goes q left.0 same left.1;
          owed = subst (λ o. IfSome o (λ j. CanBeMerged tells old.core.settings new.keepers.told (job_on (write_shard write.write) j))) left.1 opened.can;
          cause = left.2;
        }
    scheduled_by (of.Read q) same opened runs over = absurd opened

    goes_scheduled : IsScheduled tells old write told why new
    goes_scheduled =
        scheduled_by goes.does.after refl (write_opened rules (world_of old) own goes.does.after (world_of new) refl refl carried)
        (write_runs rules (world_of old) own is.before.is_consistent.masters goes.does.after (world_of new) refl refl carried) goes.does.over

  pub scheduled_row : IsScheduled tells old write told why new
  scheduled_row = elim (call_goes tells old request reply new write is asks) [
    | inl goes ↦ goes_scheduled goes
    | inr refused ↦ absurd (unbegun_called reply told refused said)
  ]
