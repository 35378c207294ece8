-- A held write: why its job is left open, and the line that ends it.
use Rattle.std.proofs.Common.{◌≡◌, ◌∙◌, ℕ, Bool, List, true, false, Option, Some, None, refl, sym, ap, subst, inl, inr}
use Rattle.std.proofs.lemmas.Bool.{cases_Bool, eq-eqb, eqb-true}
use Rattle.std.specs.Prelude.{◌==◌, ◌⊎◌, ⊤}
use Rattle.core_model.proofs.Places.{one_some}
use Rattle.core_model.specs.Pens.{pens_of}
use Rattle.core_plans.specs.Held.{IsUnderWay, OpensFirst, Plans, SetsPlan, next_stage, plan_at}
use Rattle.core_plans.specs.HeldWrites.{IsBefore}
use Rattle.core_plans.specs.LedBy.{rules_of}
use Rattle.core_plans.specs.declared.held.HeldPlan.{HeldPlan}
use Rattle.core_plans.specs.declared.held.HeldPlan.TheVariants as of
use Rattle.core_sessions.specs.Sessions.{Session}
use Rattle.core_steps.specs.World.{World}
use Rattle.node_name.specs.declared.NodeName.{NodeName}
use Rattle.read_plan.specs.Ends.{EndsAt}
use Rattle.read_plan.specs.Readings.{Reading}
use Rattle.read_plan.specs.declared.end.ReadEnd.TheVariants as read_end
use Rattle.read_plan.specs.declared.standing.Standing.{Standing}
use Rattle.read_plan.specs.declared.standing.Standing.TheVariants as read_at
use Rattle.replies.specs.declared.calls.CallReply.{CallReply}
use Rattle.replies.specs.declared.calls.CallReply.TheVariants as called
use Rattle.replies.specs.declared.calls.ScheduledWhy.{ScheduledWhy}
use Rattle.replies.specs.declared.calls.WriteReply.{WriteReply}
use Rattle.replies.specs.declared.calls.Written.{Written}
use Rattle.replies.specs.declared.plans.PlanReply.TheVariants.{Ended}
use Rattle.replies.specs.declared.plans.Stage.{Stage}
use Rattle.replies.specs.declared.refusals.Refusal.{Refusal}
use Rattle.replies.specs.declared.refusals.Refusal.TheVariants.{Memory}
use Rattle.replies.specs.declared.reply.Reply.{Reply}
use Rattle.replies.specs.declared.reply.Reply.TheVariants as replied
use Rattle.replies.specs.declared.reply.Reply.TheVariants.{Called, Refused}
use Rattle.request_check.specs.declared.checked.CheckedCall.{CheckedCall}
use Rattle.request_check.specs.declared.checked.CheckedCall.TheVariants as call
use Rattle.request_check.specs.declared.plans.CheckedPlan.{CheckedPlan}
use Rattle.request_check.specs.declared.plans.CheckedPlan.TheVariants as plan
use Rattle.tao_base.specs.declared.entry.Entry.{Entry}
use Rattle.tao_core.specs.Calls.{world_of}
use Rattle.tao_core.specs.Core.{IsCoreOf, Moment}
use Rattle.tao_core.specs.HeldCalls.{Advances, AnswersPlan, HoldGoes, IsNotBegun, Leaves, begun_plan, held_in, held_seen, numbered_plan}
use Rattle.tao_keeper.specs.KeeperState.{KeeperState, KeepsTables}
use Rattle.tao_keeper.specs.declared.jobs.Job.{Job}
use Rattle.topology.specs.Config.{Settings}
use Rattle.topology.specs.States.{NodeStates}
use Rattle.words.specs.declared.PlanWord.{PlanWord}
use Rattle.words.specs.declared.PlanWord.TheVariants as word
use Rattle.write_plan.specs.Plans.{Writing, answered_job, has_other, inverse_said, reply_by, reply_of, written_by}
use Rattle.write_plan.specs.declared.committed.Committed.{Committed}
use Rattle.write_plan.specs.declared.progress.OtherEnd.{OtherEnd}
use Rattle.write_plan.specs.declared.progress.OtherEnd.TheVariants.{Due, Ended as EndedJob, Merged, Open}
use Rattle.headline_kept.specs.Scheduled.{LeavesOpen, WasOrIsLeftOpen, left_open, why_open, why_scheduled}
use Rattle.headline_kept.proofs.LastStages.{SaysEnd, plain_end, says_end, write_last}
use Rattle.headline_kept.proofs.LeftOpen.{write_opens}
use Rattle.headline_kept.proofs.StageCauses.{OnlyBy, RefusedBy, ended_so, read_stage_fails, write_stage_fails}

-- ---- what a reply says of the inverse

open_of : (at : OtherEnd) (why : ScheduledWhy) → why_open at ≡ Some why → at ≡ Open why
open_of (Open other) why is = ap Open (one_some other why is)
open_of Due why is = absurd (cc)
open_of Merged why is = absurd (cc)
open_of EndedJob why is = absurd (cc)

said_open : (other : Bool) (at : OtherEnd) (why : ScheduledWhy) → why_scheduled (inverse_said other at) ≡ Some why → at ≡ Open why
said_open other (Open own) why is = ap Open (one_some own why is)
said_open true Due why is = absurd (cc)
said_open true Merged why is = absurd (cc)
said_open true EndedJob why is = absurd (cc)
said_open false Due why is = absurd (cc)
said_open false Merged why is = absurd (cc)
said_open false EndedJob why is = absurd (cc)

written_open : (retry : Bool) (other : Bool) (at : OtherEnd) (entry : Option Entry) (why : ScheduledWhy)
    → why_scheduled (written_by retry (inverse_said other at) entry).inverse ≡ Some why → at ≡ Open why
written_open retry other at None why is = absurd (cc)
written_open retry other at (Some e) why is = said_open other at why is

-- a write that was answered
pub record IsAnsweredSo (refused : Option Reply) (committed : Option Committed) (job : OtherEnd) (told : WriteReply) : Type 0 where
  pub c : Committed
  pub unrefused : refused ≡ None
  pub committed_is : committed ≡ Some c
  pub written_is : told.written ≡ written_by c.wrote.retry (inverse_said (has_other c) job) c.wrote.entry

pub answered_so : (P : Refusal → Type 0) (refused : Option Reply) (committed : Option Committed) (job : OtherEnd) (hops : ℕ) (told : WriteReply)
    → RefusedBy P refused → reply_by refused committed job hops ≡ Some (Called (called.Write told)) → IsAnsweredSo refused committed job told
answered_so P (Some own) committed job hops told fails is =
    let no : Refused fails.0 ≡ Called (called.Write told) = sym fails.1 ∙ one_some own (Called (called.Write told)) is in
    absurd (cc)
answered_so P None None job hops told fails is = absurd (cc)
answered_so P None (Some c) job hops told fails is = record { c = c; unrefused = refl; committed_is = refl; written_is = cc }

-- a write that says so of its inverse has its job left open
pub left_open_by : (refused : Option Reply) (committed : Option Committed) (job : OtherEnd) (told : WriteReply) (why : ScheduledWhy)
    → IsAnsweredSo refused committed job told → why_scheduled told.written.inverse ≡ Some why → job ≡ Open why
left_open_by refused committed job told why answered is =
    let c = answered.c in
    written_open c.wrote.retry (has_other c) job c.wrote.entry why
    (subst (λ (w : Written). why_scheduled w.inverse ≡ Some why) answered.written_is is)

-- one that was answered wasn't refused
pub unrefused_called : (P : Refusal → Type 0) (refused : Option Reply) (committed : Option Committed) (job : OtherEnd) (hops : ℕ) (told : CallReply)
    → RefusedBy P refused → reply_by refused committed job hops ≡ Some (Called told) → refused ≡ None
unrefused_called P (Some own) committed job hops told fails is =
    let no : Refused fails.0 ≡ Called told = sym fails.1 ∙ one_some own (Called told) is in
    absurd (cc)
unrefused_called P None committed job hops told fails is = refl

-- a read has no reply to a write
read_ends_so : (P : Refusal → Type 0) (at : Standing) (q : Reading) (told : WriteReply) → OnlyBy P at → EndsAt at q (Called (called.Write told)) → ⊥
read_ends_so P (read_at.Ended (read_end.Answered answer version held)) q told only is = absurd (cc (is))
read_ends_so P (read_at.Ended (read_end.Refused own)) q told only is = absurd (cc (is ∙ only.1))
read_ends_so P read_at.Looking q told only is = absurd is
read_ends_so P read_at.Asking q told only is = absurd is
read_ends_so P read_at.Mastering q told only is = absurd is
read_ends_so P (read_at.Keeping given) q told only is = absurd is

-- nor has a call that isn't begun the reply of a plan that ended
not_begun_plain : (states : NodeStates) (sessions : List Session) (made : CheckedCall) (reply : Reply) (number : ℕ) (told : CallReply)
    → IsNotBegun states sessions made reply → reply ≡ replied.Plan (Ended number told) → ⊥
not_begun_plain states sessions made (Refused refusal) number told none is = absurd (cc (is))
not_begun_plain states sessions made reply number told none is = absurd none

-- ---- a stage of a held plan

-- nothing is done of a job before its commit
abbrev IsDueFirst : HeldPlan → Type 0
IsDueFirst (of.Write p) = p.committed ≡ None → p.job ≡ Due
IsDueFirst (of.Read p) = ⊤

module _ (tells : Bool) (old new : Moment) where
  -- what a plan is left open for it was before, or it is by the stage
  stage_open : (before after : HeldPlan) (why : ScheduledWhy) → IsDueFirst before
      → Advances (rules_of tells old.core.settings) before (world_of old) after (world_of new) → left_open (Some after) ≡ Some why
      → WasOrIsLeftOpen tells (Some before) old why new
  stage_open (of.Write p) (of.Write q) why due (inl steps) is =
      by ((write_opens (rules_of tells old.core.settings) p q (world_of old) (world_of new) due steps).open_for why (open_of q.job why is))
    where
      by : ((p.job ≡ Open why) × ((world_of new).keepers ≡ (world_of old).keepers)) ⊎ LeavesOpen tells old.core.settings p (world_of old) why (world_of new)
          → WasOrIsLeftOpen tells (Some (of.Write p)) old why new
      by (inl was) = inl (ap why_open was.0)
      by (inr opened) = inr (p, refl, opened)
  stage_open (of.Read p) (of.Read q) why due (inl steps) is = absurd (cc)
  stage_open (of.Write p) (of.Read q) why due (inl steps) is = absurd steps
  stage_open (of.Read p) (of.Write q) why due (inl steps) is = absurd steps
  stage_open (of.Write p) (of.Write q) why due (inr ends) is = inl (subst (λ (r : Writing). why_open r.job ≡ Some why) ends.gives.0 is)
  stage_open (of.Read p) (of.Read q) why due (inr ends) is = absurd (cc)
  stage_open (of.Write p) (of.Read q) why due (inr ends) is = absurd ends.gives
  stage_open (of.Read p) (of.Write q) why due (inr ends) is = absurd ends.gives

  -- ---- a line that steps a plan

  -- by what becomes of the plan of that number, the plan of each
  changed_open : (own : ℕ) (before : HeldPlan) (later : Option HeldPlan) (plans : Plans) (number : ℕ) (why : ScheduledWhy)
      → plan_at plans own ≡ Some before → SetsPlan own later plans new.core.plans
      → (left_open later ≡ Some why → WasOrIsLeftOpen tells (Some before) old why new)
      → left_open (plan_at new.core.plans number) ≡ Some why → WasOrIsLeftOpen tells (plan_at plans number) old why new
  changed_open own before later plans number why there sets opens is = elim (cases_Bool (number == own)) [
    | inl same ↦
        let is_own : number ≡ own = eqb-true number own same in
        let gone : plan_at new.core.plans number ≡ later = sets number ∙ rw same refl in
        subst (λ found. WasOrIsLeftOpen tells found old why new) (sym (ap (plan_at plans) is_own ∙ there))
        (opens (subst (λ found. left_open found ≡ Some why) gone is))
    | inr apart ↦
        let rests : plan_at new.core.plans number ≡ plan_at plans number = sets number ∙ rw apart refl in
        inl (subst (λ found. left_open found ≡ Some why) rests is)
  ]

  -- the plan goes on, or is over and gone
  leaves_open : (asked : PlanWord) (own : ℕ) (before after : HeldPlan) (next : Option Stage) (plans : Plans) (reply : Reply)
      (number : ℕ) (why : ScheduledWhy) → plan_at plans own ≡ Some before → IsDueFirst before
      → Advances (rules_of tells old.core.settings) before (world_of old) after (world_of new)
      → Leaves asked (numbered_plan own after) next (held_seen plans old.core.sessions (pens_of old.core.fleet.stores)) reply (held_in new.core)
      → left_open (plan_at new.core.plans number) ≡ Some why → WasOrIsLeftOpen tells (plan_at plans number) old why new
  leaves_open asked own before after (Some stage) plans reply number why there due steps goes is =
      changed_open own before (Some after) plans number why there goes.changes.sets (stage_open before after why due steps) is
  leaves_open asked own before after None plans reply number why there due steps ends is =
      changed_open own before None plans number why there ends.takes.sets (λ none. absurd (cc)) is

-- ---- the line that ends it

-- the way back of a write is before it
abbrev IsBackBefore : HeldPlan → Type 0
IsBackBefore (of.Write p) = IsBefore p.back
IsBackBefore (of.Read p) = ⊤

module _ (tells : Bool) (old new : Moment) where
  -- the stage that ends a call with its reply changes no table
  end_keeps : (before after : HeldPlan) (told : CallReply) → IsBackBefore before
      → Advances (rules_of tells old.core.settings) before (world_of old) after (world_of new) → SaysEnd after told
      → KeepsTables tells old.keepers new.keepers
  end_keeps (of.Read p) (of.Read q) told back (inl steps) ends = steps.tables
  end_keeps (of.Write p) (of.Write q) told back (inl steps) ends =
      let rules = rules_of tells old.core.settings in
      let last = write_last rules p q (world_of old) (world_of new) back ends.none
      (unrefused_called _ q.refused q.committed q.job q.hops told (write_stage_fails rules p q (world_of old) (world_of new) steps) ends.over) steps in
      λ told at. ap (λ (k : KeeperState). k.told at) last.keepers
  end_keeps (of.Read p) (of.Write q) told back (inl steps) ends = absurd steps
  end_keeps (of.Write p) (of.Read q) told back (inl steps) ends = absurd steps
  end_keeps (of.Write p) (of.Write q) told back (inr ends) over = λ so at. ap (λ (w : World). w.keepers.told at) ends.gives.1
  end_keeps (of.Read p) (of.Read q) told back (inr ends) over = λ so at. ap (λ (w : World). w.keepers.told at) ends.gives.rest
  end_keeps (of.Write p) (of.Read q) told back (inr ends) over = absurd ends.gives
  end_keeps (of.Read p) (of.Write q) told back (inr ends) over = absurd ends.gives

  -- and where the reply says that the inverse is scheduled, the plan's job was left open before it
  end_left : (before after : HeldPlan) (told : WriteReply) (why : ScheduledWhy) → IsBackBefore before
      → Advances (rules_of tells old.core.settings) before (world_of old) after (world_of new) → SaysEnd after (called.Write told)
      → why_scheduled told.written.inverse ≡ Some why → left_open (Some before) ≡ Some why
  end_left (of.Write p) (of.Write q) told why back (inl steps) ends is =
      let rules = rules_of tells old.core.settings in
      let fails = write_stage_fails rules p q (world_of old) (world_of new) steps in
      let answered = answered_so _ q.refused q.committed q.job q.hops told fails ends.over in
      let last = write_last rules p q (world_of old) (world_of new) back ends.none answered.unrefused steps in
      ap why_open (sym last.job ∙ left_open_by q.refused q.committed q.job told why answered is)
  end_left (of.Read p) (of.Read q) told why back (inl steps) ends is =
      absurd (read_ends_so _ q.at q told (read_stage_fails (rules_of tells old.core.settings) p q (world_of old) (world_of new) steps.steps.does) ends.over)
  end_left (of.Read p) (of.Write q) told why back (inl steps) ends is = absurd steps
  end_left (of.Write p) (of.Read q) told why back (inl steps) ends is = absurd steps
  end_left (of.Write p) (of.Write q) told why back (inr ends) over is =
      absurd (cc (subst (λ (r : Writing). reply_of r ≡ Some (Called (called.Write told))) ends.gives.0 over.over))
  end_left (of.Read p) (of.Read q) told why back (inr ends) over is =
      absurd (read_ends_so _ q.at q told (ended_so (λ refusal. ⊤) p q (world_of old) (world_of new) (Memory 0) ends.gives tt) over.over)
  end_left (of.Write p) (of.Read q) told why back (inr ends) over is = absurd ends.gives
  end_left (of.Read p) (of.Write q) told why back (inr ends) over is = absurd ends.gives

-- ---- what is asked of a plan

module _ (tells : Bool) (old : Moment) (reply : Reply) (new : Moment) (core : IsCoreOf tells old.keepers.told old.core) where
  abbrev s : Settings
  s = old.core.settings

  due_first : (plan : HeldPlan) → IsUnderWay tells s old.keepers.told old.core.fleet plan → IsDueFirst plan
  due_first (of.Write p) under = λ none. (under.begun none).0
  due_first (of.Read p) under = tt

  back_before : (plan : HeldPlan) → OpensFirst plan → IsBackBefore plan
  back_before (of.Write p) first = first
  back_before (of.Read p) first = tt

  -- a plan of which nothing is done
  begun_due : (session : Session) (follower : NodeName) (made : CheckedCall) → IsDueFirst (begun_plan s session follower made)
  begun_due session follower (call.Write write) = λ none. refl
  begun_due session follower (call.Read read) = tt

  begun_back : (session : Session) (follower : NodeName) (made : CheckedCall) → IsBackBefore (begun_plan s session follower made)
  begun_back session follower (call.Write write) = tt
  begun_back session follower (call.Read read) = tt

  begun_left : (session : Session) (follower : NodeName) (made : CheckedCall) → left_open (Some (begun_plan s session follower made)) ≡ None
  begun_left session follower (call.Write write) = refl
  begun_left session follower (call.Read read) = refl

  begun_answered : (session : Session) (follower : NodeName) (made : CheckedCall) (p : Writing) (job : Job)
      → Some (begun_plan s session follower made) ≡ Some (of.Write p) → answered_job p ≡ Some job → ⊥
  begun_answered session follower (call.Write write) p job is answered =
      let none : None ≡ answered_job p = ap job_in (one_some _ _ is) in
      absurd (cc)
    where
      job_in : HeldPlan → Option Job
      job_in (of.Write p) = answered_job p
      job_in (of.Read p) = None
  begun_answered session follower (call.Read read) p job is answered = absurd (cc)

  -- the plan that is held before the line, and what it was
  module _ (number : ℕ) (made : CheckedCall) (goes : HoldGoes tells number made old reply new) where
    stands_begun : goes.steps.before ≡ begun_plan s goes.begun.session goes.begun.follower made
    stands_begun =
        let own : plan_at goes.added number ≡ Some goes.plan = goes.adds.sets number ∙ rw (eq-eqb number number refl) refl in
        one_some _ _ (sym goes.steps.stands ∙ own) ∙ goes.begun.plan_is

    hold_due : IsDueFirst goes.steps.before
    hold_due = subst IsDueFirst (sym stands_begun) (begun_due goes.begun.session goes.begun.follower made)

    hold_back : IsBackBefore goes.steps.before
    hold_back = subst IsBackBefore (sym stands_begun) (begun_back goes.begun.session goes.begun.follower made)

    hold_left : left_open (Some goes.steps.before) ≡ None
    hold_left = subst (λ (plan : HeldPlan). left_open (Some plan) ≡ None) (sym stands_begun) (begun_left goes.begun.session goes.begun.follower made)

    -- nothing is left open of a plan that only begins
    never_open : (why : ScheduledWhy) → WasOrIsLeftOpen tells (Some goes.steps.before) old why new → ⊥
    never_open why (inl was) = absurd (cc (sym hold_left ∙ was))
    never_open why (inr opened) =
        begun_answered goes.begun.session goes.begun.follower made opened.0 opened.2.job (ap Some (sym stands_begun) ∙ opened.1) opened.2.answered

    hold_open : (other : ℕ) (why : ScheduledWhy) → left_open (plan_at new.core.plans other) ≡ Some why
        → WasOrIsLeftOpen tells (plan_at old.core.plans other) old why new
    hold_open other why is = elim (cases_Bool (other == number)) [
      | inl same ↦
          let opened = leaves_open tells old new word.Hold number goes.steps.before goes.steps.after (next_stage goes.steps.after) goes.added
          reply other why goes.steps.stands hold_due goes.steps.steps goes.steps.leaves is in
          let there : plan_at goes.added other ≡ Some goes.steps.before = ap (plan_at goes.added) (eqb-true other number same) ∙ goes.steps.stands in
          absurd (never_open why (subst (λ found. WasOrIsLeftOpen tells found old why new) there opened))
      | inr apart ↦
          let opened = leaves_open tells old new word.Hold number goes.steps.before goes.steps.after (next_stage goes.steps.after) goes.added
          reply other why goes.steps.stands hold_due goes.steps.steps goes.steps.leaves is in
          let rests : plan_at goes.added other ≡ plan_at old.core.plans other = goes.adds.sets other ∙ rw apart refl in
          subst (λ found. WasOrIsLeftOpen tells found old why new) rests opened
    ]

  -- where a plan that is held is left open after the line
  pub plan_open : (what : CheckedPlan) (number : ℕ) (why : ScheduledWhy) → AnswersPlan tells what old reply new
      → left_open (plan_at new.core.plans number) ≡ Some why → WasOrIsLeftOpen tells (plan_at old.core.plans number) old why new
  plan_open (plan.Hold own made) number why (inl goes) is = hold_open own made goes number why is
  plan_open (plan.Hold own made) number why (inr refuses) is =
      inl (subst (λ (m : Moment). left_open (plan_at m.core.plans number) ≡ Some why) refuses.same is)
  plan_open (plan.Advance own) number why steps is =
      leaves_open tells old new word.Advance own steps.before steps.after (next_stage steps.after) old.core.plans reply number why
      steps.stands (due_first steps.before (core.plans.under_way own steps.before steps.stands)) steps.steps steps.leaves is

  -- the line that ends a call with its reply
  pub plan_ends : (what : CheckedPlan) (number : ℕ) (told : CallReply) → AnswersPlan tells what old reply new → reply ≡ replied.Plan (Ended number told)
      → KeepsTables tells old.keepers new.keepers
  plan_ends (plan.Hold own made) number told (inl goes) is =
      end_keeps tells old new goes.steps.before goes.steps.after told (hold_back own made goes) goes.steps.steps
      (says_end word.Hold (numbered_plan own goes.steps.after) (next_stage goes.steps.after) reply number told _ _ refl
      (λ ended over. plain_end (rules_of tells s) goes.steps.before goes.steps.after (world_of old) (world_of new) ended goes.steps.steps over)
      goes.steps.leaves is).1
  plan_ends (plan.Hold own made) number told (inr refuses) is =
      absurd (not_begun_plain old.core.states old.core.sessions made reply number told refuses.refused is)
  plan_ends (plan.Advance own) number told steps is =
      end_keeps tells old new steps.before steps.after told (back_before steps.before (core.plans.begun own steps.before steps.stands)) steps.steps
      (says_end word.Advance (numbered_plan own steps.after) (next_stage steps.after) reply number told _ _ refl
      (λ ended over. plain_end (rules_of tells s) steps.before steps.after (world_of old) (world_of new) ended steps.steps over) steps.leaves is).1

  pub plan_left : (what : CheckedPlan) (number : ℕ) (told : WriteReply) (why : ScheduledWhy) → AnswersPlan tells what old reply new
      → reply ≡ replied.Plan (Ended number (called.Write told)) → why_scheduled told.written.inverse ≡ Some why
      → left_open (plan_at old.core.plans number) ≡ Some why
  plan_left (plan.Hold own made) number told why (inl goes) is scheduled =
      let ends = says_end word.Hold (numbered_plan own goes.steps.after) (next_stage goes.steps.after) reply number (called.Write told) _ _ refl
      (λ ended over. plain_end (rules_of tells s) goes.steps.before goes.steps.after (world_of old) (world_of new) ended goes.steps.steps over)
      goes.steps.leaves is in
      let was = end_left tells old new goes.steps.before goes.steps.after told why (hold_back own made goes) goes.steps.steps ends.1 scheduled in
      absurd (cc (sym (hold_left own made goes) ∙ was))
  plan_left (plan.Hold own made) number told why (inr refuses) is scheduled =
      absurd (not_begun_plain old.core.states old.core.sessions made reply number (called.Write told) refuses.refused is)
  plan_left (plan.Advance own) number told why steps is scheduled =
      let ends = says_end word.Advance (numbered_plan own steps.after) (next_stage steps.after) reply number (called.Write told) _ _ refl
      (λ ended over. plain_end (rules_of tells s) steps.before steps.after (world_of old) (world_of new) ended steps.steps over) steps.leaves is in
      let was = end_left tells old new steps.before steps.after told why
      (back_before steps.before (core.plans.begun own steps.before steps.stands)) steps.steps ends.1 scheduled in
      subst (λ found. left_open found ≡ Some why) (sym (ap (plan_at old.core.plans) (sym ends.0) ∙ steps.stands)) was
