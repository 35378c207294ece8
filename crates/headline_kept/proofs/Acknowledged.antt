-- What was acknowledged stands.
use Rattle.std.proofs.Common.{◌≡◌, ◌∙◌, ℕ, Bool, true, Option, Some, None, Ok, refl, sym, ap, subst, inl, inr}
use Rattle.std.proofs.lemmas.Bool.{eq-eqb}
use Rattle.std.specs.Prelude.{◌⊎◌, drop, length, option_and_then, unwrap_or}
use Rattle.core_model.proofs.KeptStores.{sound_logs}
use Rattle.core_model.proofs.Places.{one_some}
use Rattle.core_model.specs.Stores.{AreKeptIn, HaveMasterRegions, master_log, master_store}
use Rattle.core_plans.proofs.WholeRuns.{OfWrite}
use Rattle.core_plans.specs.Held.{IsOver, next_stage, plan_at}
use Rattle.core_plans.specs.HeldWrites.{IsBefore, call_of_plan}
use Rattle.core_plans.specs.LedBy.{rules_of}
use Rattle.core_plans.specs.declared.held.HeldPlan.{HeldPlan}
use Rattle.core_plans.specs.declared.held.HeldPlan.TheVariants as of
use Rattle.core_sessions.specs.Sessions.{Session}
use Rattle.core_model.specs.Asked.{AuthoredWrite}
use Rattle.graph_model.specs.Log.{entry_at}
use Rattle.graph_model.specs.Told.{WhereTold}
use Rattle.node_name.specs.declared.NodeName.{NodeName}
use Rattle.promise_kept.proofs.Entries.{each_once}
use Rattle.replies.specs.declared.calls.CallReply.TheVariants as called
use Rattle.replies.specs.declared.calls.InverseEnd.{InverseEnd}
use Rattle.replies.specs.declared.plans.Stage.{Stage}
use Rattle.replies.specs.declared.refusals.Refusal.{Refusal}
use Rattle.replies.specs.declared.reply.Reply.{Reply}
use Rattle.replies.specs.declared.reply.Reply.TheVariants.{Called, Refused}
use Rattle.request_check.specs.declared.checked.Checked.{Checked}
use Rattle.request_check.specs.declared.checked.Checked.TheVariants as asked
use Rattle.request_check.specs.declared.checked.CheckedCall.{CheckedCall}
use Rattle.request_check.specs.declared.checked.CheckedCall.TheVariants as call
use Rattle.request_check.specs.declared.plans.CheckedPlan.TheVariants as plan
use Rattle.requests.specs.declared.request.Request.{Request}
use Rattle.shard_log.proofs.Beginnings.{begins-rest}
use Rattle.tao_base.specs.Writes.{write_shard}
use Rattle.tao_base.specs.declared.entry.Entry.{Entry}
use Rattle.tao_base.specs.declared.entry.Origin.TheVariants.{Client}
use Rattle.tao_core.specs.Calls.{world_of}
use Rattle.tao_core.specs.Core.{IsCoreOf, Moment, StaysUsable}
use Rattle.tao_core.specs.HeldCalls.{Advances, AnswersCall, DoesAtOnce, Held, HoldGoes, IsNotBegun, Leaves, NumberedPlan}
use Rattle.tao_core.specs.HeldCalls.{begun_plan, numbered_reply}
use Rattle.tao_core.specs.Replies.{AnswersAsked, AnswersRequest}
use Rattle.tao_keeper.specs.Growing.{LogsGrow}
use Rattle.tao_keeper.specs.Table.{Tables}
use Rattle.tao_keeper.specs.declared.jobs.Job.{Job}
use Rattle.topology.specs.Config.{Settings}
use Rattle.words.specs.declared.PlanWord.{PlanWord}
use Rattle.words.specs.declared.PlanWord.TheVariants as word
use Rattle.write_model.proofs.Growing.{entry_at-more}
use Rattle.write_plan.specs.Plans.{Writing, answered_entry, back_stage, begun_write, has_other, inverse_said, job_stage, next_of, reply_by, stage_from, when_of}
use Rattle.write_plan.specs.Plans.{written_by}
use Rattle.write_plan.specs.Stages.{stage_said}
use Rattle.write_plan.specs.declared.committed.Committed.{Committed}
use Rattle.write_plan.specs.declared.progress.OtherEnd.{OtherEnd}
use Rattle.write_plan.specs.declared.progress.OtherEnd.TheVariants.{Due, Merged, Ended, Open}
use Rattle.write_plan.specs.declared.progress.WayBack.{WayBack}
use Rattle.write_plan.specs.declared.progress.WayBack.TheVariants.{Ahead, Applied, Relayed}
use Rattle.headline_kept.specs.Refusing.{WritesStand}
use Rattle.headline_kept.specs.Standing.{Asks, StandsAt, StandsWhen, acknowledged, write_of, write_of_call, write_of_plan}
use Rattle.headline_kept.specs.Standing.{written_at}
use Rattle.headline_kept.proofs.StageCauses.{RefusedBy, was_unrefused, write_stage_fails}
use Rattle.headline_kept.proofs.WholeCauses.{Commits, Rests, WriteRuns, committed_entry, moves, stands_when, write_runs}

-- ---- what an Ok reply says

pub said_entry : (retry : Bool) (inverse : InverseEnd) (entry : Option Entry) (position : ℕ) → written_at (written_by retry inverse entry) ≡ Some position
    → (e : Entry) × (entry ≡ Some e) × (e.position ≡ position)
said_entry retry inverse None position is = absurd (cc)
said_entry retry inverse (Some e) position is = (e, refl, cc)

-- where a write's reply says a position, it is that of the entry which its commit answered
acknowledges : (P : Refusal → Type 0) (refused : Option Reply) (committed : Option Committed) (job : OtherEnd) (hops : ℕ) (reply : Reply) (position : ℕ)
    → RefusedBy P refused → reply_by refused committed job hops ≡ Some reply → acknowledged reply ≡ Some position
    → (e : Entry) × (option_and_then (λ (c : Committed). c.wrote.entry) committed ≡ Some e) × (e.position ≡ position)
acknowledges P (Some own) committed job hops reply position fails is told =
    let own_is : own ≡ reply = cc in
    let refused : reply ≡ Refused fails.0 = sym own_is ∙ fails.1 in
    let no : None ≡ Some position = subst (λ r. acknowledged r ≡ Some position) refused told in
    absurd (cc)
acknowledges P None None job hops reply position fails is told = absurd (cc)
acknowledges P None (Some c) job hops reply position fails is told =
    let one = ap (unwrap_or_reply reply) is in
    said_entry c.wrote.retry (inverse_said (has_other c) job) c.wrote.entry position (subst (λ r. acknowledged r ≡ Some position) (sym one) told)
  where
    unwrap_or_reply : Reply → Option Reply → Reply
    unwrap_or_reply reply o = unwrap_or o reply

-- a refusal says none
refused_said : (refusal : Refusal) (ended : Reply) → {position : ℕ} → Some (Refused refusal) ≡ Some ended → acknowledged ended ≡ Some position → ⊥
refused_said refusal ended {position} is told =
    let same : Refused refusal ≡ ended = cc in
    let no : None ≡ Some position = subst (λ r. acknowledged r ≡ Some position) (sym same) told in
    absurd (cc)

-- ---- logs that grew

stands_later : (tells : Bool) (s : Settings) (old new : Tables) (write : AuthoredWrite) (position : ℕ) → LogsGrow tells old new → tells ≡ true
    → StandsAt s old write position → StandsAt s new write position
stands_later tells s old new write position grows told at =
    let shard = write_shard write.write in
    let log = master_log s old shard in
    let whole = master_log s new shard in
    record {
      entry = at.entry;
      stands = subst (λ xs. entry_at xs position ≡ Some at.entry) (begins-rest log whole (grows.begins told (master_store s shard)))
          (entry_at-more log (drop (length log) whole) position at.entry at.stands);
      fits = at.fits;
      own = at.own;
    }

-- ---- stages that are left behind a commit

back_left : (passed : Option NodeName) (back : WayBack) → IsBefore back → stage_said (back_stage passed back) ≡ None → ⊥
back_left None Ahead before is = absurd (cc)
back_left (Some leader) Ahead before is = absurd (cc)
back_left None Relayed before is = absurd (cc)
back_left (Some leader) Relayed before is = absurd (cc)
back_left passed Applied before is = absurd before

pub way_left : (owed : Option Job) (job : OtherEnd) (passed : Option NodeName) (back : WayBack) → IsBefore back
    → stage_said (unwrap_or (option_and_then (λ _. job_stage job) owed) (back_stage passed back)) ≡ None → ⊥
way_left None job passed back before is = back_left passed back before is
way_left (Some j) Due passed back before is = absurd (cc)
way_left (Some j) Merged passed back before is = absurd (cc)
way_left (Some j) Ended passed back before is = back_left passed back before is
way_left (Some j) (Open why) passed back before is = back_left passed back before is

-- ---- replies of plans

numbered_said : (number : ℕ) (ended : Reply) → acknowledged (numbered_reply number ended) ≡ acknowledged ended
numbered_said number (Called (called.Write reply)) = refl
numbered_said number (Called (called.Read reply)) = refl
numbered_said number reply = refl

-- a plan whose line tells a position is over
record IsSaidOver (plan : HeldPlan) (position : ℕ) : Type 0 where
  ended : Reply
  over : IsOver plan ended
  said : acknowledged ended ≡ Some position

leaves_said : (asked_word : PlanWord) (by : NumberedPlan) (next : Option Stage) (reply : Reply) (position : ℕ) (old new : Held)
    → Leaves asked_word by next old reply new → acknowledged reply ≡ Some position → (next ≡ None) × IsSaidOver by.plan position
leaves_said asked_word by (Some stage) reply position old new goes told =
    let no : None ≡ Some position = subst (λ r. acknowledged r ≡ Some position) goes.said told in
    absurd (cc)
leaves_said asked_word by None reply position old new ends told = (
  refl,
  record {
    ended = ends.ended;
    over = ends.over;
    said = sym (numbered_said by.number ends.ended) ∙ subst (λ r. acknowledged r ≡ Some position) ends.said told;
  },
)

module _ (tells : Bool) (old : Moment) (request : Request) (reply : Reply) (new : Moment) (core : IsCoreOf tells old.keepers.told old.core)
    (after : StaysUsable tells old.keepers new.keepers old.core new.core) (position : ℕ) (told : acknowledged reply ≡ Some position) where
  abbrev s : Settings
  s = old.core.settings

  regions : HaveMasterRegions s
  regions = core.is_consistent.masters

  abbrev Stands : AuthoredWrite → Type 0
  Stands write = WhereTold tells (StandsAt s new.keepers.told write position)

  -- ---- a write that isn't held

  runs_stand : (p : Writing) (q : HeldPlan) → OfWrite (WriteRuns (rules_of tells s) (world_of old) p) q (world_of new) → IsOver q reply
      → Stands (call_of_plan p)
  runs_stand p (of.Write q) runs over =
      let ack = acknowledges _ q.refused q.committed q.job q.hops reply position runs.fails over told in
      let stands = subst (StandsWhen tells s new.keepers.told (Some (call_of_plan p))) (ap when_of ack.1) runs.stands in
      λ so. subst (StandsAt s new.keepers.told (call_of_plan p)) ack.2 (stands so)
  runs_stand p (of.Read q) runs over = absurd runs

  write_stands : (p : Writing) → p.committed ≡ None → p.refused ≡ None → DoesAtOnce tells (of.Write p) old reply new → Stands (call_of_plan p)
  write_stands p none never does =
      runs_stand p does.after (write_runs (rules_of tells s) (world_of old) p regions does.after (world_of new) none never does.carries) does.over

  not_begun_said : (made : CheckedCall) (r : Reply) → acknowledged r ≡ Some position → IsNotBegun old.core.states old.core.sessions made r → ⊥
  not_begun_said made (Refused refusal) is not = absurd (cc)
  not_begun_said made r is not = absurd not

  call_stands : (made : CheckedCall) (write : AuthoredWrite) → write_of_call made ≡ Some write → AnswersCall tells made old reply new → Stands write
  call_stands (call.Write made) write is (inl goes) =
      let b = goes.begun in
      let p = begun_write made.write (Client made.session made.seq) b.session.region b.session.tier b.follower in
      let same : call_of_plan p ≡ write = one_some _ _ is in
      subst Stands same (write_stands p refl refl (subst (λ x. DoesAtOnce tells x old reply new) b.plan_is goes.does))
  call_stands (call.Read made) write is (inl goes) = absurd (cc)
  call_stands made write is (inr refuses) = absurd (not_begun_said made reply told refuses.refused)

  -- ---- a stage of a held write

  module _ (p : Writing) (before : IsBefore p.back) (was : StandsWhen tells s old.keepers.told (Some (call_of_plan p)) (when_of (answered_entry p))) where
    rests_stand : (q : Writing) (e : Entry) → q.committed ≡ p.committed → answered_entry q ≡ Some e → e.position ≡ position → Stands (call_of_plan p)
    rests_stand q e same entry at so =
        let entry_is : answered_entry p ≡ Some e = sym (committed_entry q p.committed same) ∙ entry in
        let stood = subst (StandsWhen tells s old.keepers.told (Some (call_of_plan p))) (ap when_of entry_is) was in
        subst (StandsAt s new.keepers.told (call_of_plan p)) at
        (stands_later tells s old.keepers.told new.keepers.told (call_of_plan p) e.position after.grows.logs so (stood so))

    commits_left : (q : Writing) → p.refused ≡ None → Commits (rules_of tells s) p (world_of old) q (world_of new) → next_stage (of.Write q) ≡ None → ⊥
    commits_left q never did over =
        let c = did.commits.committed in
        let then : stage_said (stage_from p.refused (Some c) p.job p.back) ≡ None =
        subst (λ r. stage_said (next_of r) ≡ None) did.commits.then over in
        let none : stage_said (stage_from None (Some c) p.job p.back) ≡ None =
        subst (λ r. stage_said (stage_from r (Some c) p.job p.back) ≡ None) never then in
        way_left c.wrote.job p.job c.passed p.back before none

    by_move : (q : Writing) (e : Entry) → p.refused ≡ None
        → Rests tells p (world_of old) q (world_of new) ⊎ Commits (rules_of tells s) p (world_of old) q (world_of new)
        → answered_entry q ≡ Some e → e.position ≡ position → next_stage (of.Write q) ≡ None → Stands (call_of_plan p)
    by_move q e never (inl rests) entry at over = rests_stand q e rests.committed entry at
    by_move q e never (inr did) entry at over = absurd (commits_left q never did over)

    stage_stands : (q : HeldPlan) → Advances (rules_of tells s) (of.Write p) (world_of old) q (world_of new) → next_stage q ≡ None → IsSaidOver q position
        → Stands (call_of_plan p)
    stage_stands (of.Write q) (inl steps) over so =
        let fails = write_stage_fails (rules_of tells s) p q (world_of old) (world_of new) steps in
        let ack = acknowledges _ q.refused q.committed q.job q.hops so.ended position fails so.over so.said in
        by_move q ack.0 (was_unrefused (rules_of tells s) p q (world_of old) (world_of new) steps)
        (moves (rules_of tells s) p q (world_of old) (world_of new) steps) ack.1 ack.2 over
    stage_stands (of.Read q) (inl steps) over so = absurd steps
    stage_stands (of.Write q) (inr without) over so =
        absurd (refused_said _ so.ended (subst (λ x. IsOver (of.Write x) so.ended) without.gives.0 so.over) so.said)
    stage_stands (of.Read q) (inr without) over so = absurd without.gives

  -- a write that is advanced
  advance_stands : (number : ℕ) (before : HeldPlan) (q : HeldPlan) (write : AuthoredWrite) → plan_at old.core.plans number ≡ Some before
      → option_and_then write_of_plan (plan_at old.core.plans number) ≡ Some write
      → Advances (rules_of tells s) before (world_of old) q (world_of new) → next_stage q ≡ None → IsSaidOver q position → Stands write
  advance_stands number (of.Write p) q write at is steps over so =
      let same : call_of_plan p ≡ write = one_some _ _ (sym (ap (option_and_then write_of_plan) at) ∙ is) in
      let was = stands_when tells s old.keepers.told old.core.fleet p regions core.is_consistent.consistent (core.plans.under_way number (of.Write p) at) in
      subst Stands same (stage_stands p (core.plans.begun number (of.Write p) at) was q steps over so)
  advance_stands number (of.Read p) q write at is steps over so =
      let no : None ≡ Some write = sym (ap (option_and_then write_of_plan) at) ∙ is in
      absurd (cc)

  -- a write that is held from now on
  begun_stands : (session : Session) (follower : NodeName) (made : CheckedCall) (q : HeldPlan) (write : AuthoredWrite) → write_of_call made ≡ Some write
      → Advances (rules_of tells s) (begun_plan s session follower made) (world_of old) q (world_of new) → next_stage q ≡ None → IsSaidOver q position
      → Stands write
  begun_stands session follower (call.Write made) q write is steps over so =
      let p = begun_write made.write (Client made.session made.seq) session.region session.tier follower in
      let same : call_of_plan p ≡ write = one_some _ _ is in
      subst Stands same (stage_stands p tt tt q steps over so)
  begun_stands session follower (call.Read made) q write is steps over so = absurd (cc)

  hold_stands : (number : ℕ) (made : CheckedCall) (write : AuthoredWrite) → write_of_call made ≡ Some write → HoldGoes tells number made old reply new
      → Stands write
  hold_stands number made write is goes =
      let b = goes.begun in
      let own : plan_at goes.added number ≡ Some goes.plan = goes.adds.sets number ∙ rw (eq-eqb number number refl) refl in
      let same : goes.steps.before ≡ goes.plan = one_some _ _ (sym goes.steps.stands ∙ own) in
      let so = leaves_said word.Hold _ (next_stage goes.steps.after) reply position _ _ goes.steps.leaves told in
      begun_stands b.session b.follower made goes.steps.after write is
      (subst (λ before. Advances (rules_of tells s) before (world_of old) goes.steps.after (world_of new)) (same ∙ b.plan_is) goes.steps.steps) so.0 so.1

  -- ---- all lines

  asked_stands : (what : Checked) (write : AuthoredWrite) → write_of old.core.plans what ≡ Some write → AnswersAsked tells old (Ok what) reply new
      → Stands write
  asked_stands (asked.Call made) write is h = call_stands made write is h
  asked_stands (asked.Plan (plan.Hold number made)) write is (inl goes) = hold_stands number made write is goes
  asked_stands (asked.Plan (plan.Hold number made)) write is (inr refuses) = absurd (not_begun_said made reply told refuses.refused)
  asked_stands (asked.Plan (plan.Advance number)) write is h =
      let so = leaves_said word.Advance _ (next_stage h.after) reply position _ _ h.leaves told in
      advance_stands number h.before h.after write h.stands is h.steps so.0 so.1
  asked_stands what write is h = absurd (cc)

  -- what was asked was answered
  pub answered : (what : Checked) → Asks old request what → AnswersRequest tells old request reply new → AnswersAsked tells old (Ok what) reply new
  answered what asks (inr answers) = subst (λ found. AnswersAsked tells old found reply new) asks answers
  answered what asks (inl wants) =
      let no : None ≡ Some position = subst (λ r. acknowledged r ≡ Some position) wants.reply_is told in
      absurd (cc)

pub writes_stand : WritesStand
writes_stand = record {
  stands = λ tells old new request reply is. record {
    written = λ what write position asks of_it told.
        asked_stands tells old request reply new is.before is.after position told what write of_it
        (answered tells old request reply new is.before is.after position told what asks is.answers);
    stays = λ write position told.
        stands_later tells old.core.settings old.keepers.told new.keepers.told write position is.after.grows.logs told;
    once = λ shard here told.
        let kept = subst (λ s. AreKeptIn s new.keepers.told) is.after.settings (is.after.keepers.is_consistent.consistent.stores.kept told) in
        each_once (master_log old.core.settings new.keepers.told shard) (sound_logs old.core.settings new.keepers.told kept shard here).sound;
  };
}
