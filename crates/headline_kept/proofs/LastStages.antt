-- The line that ends a held call with its reply does its last stage alone, which changes no table.
use Rattle.std.proofs.Common.{◌≡◌, ◌∙◌, ℕ, Option, Some, None, Result, Ok, Err, refl, sym, ap, subst, inl, inr}
use Rattle.std.specs.Prelude.{⊤, IfSome, option_and_then}
use Rattle.core_model.proofs.Places.{one_some}
use Rattle.core_plans.proofs.StageLemmas.{ended_down}
use Rattle.core_plans.specs.Held.{IsOver, next_stage}
use Rattle.core_plans.specs.HeldWrites.{ComesOfWrite, CommitsBy, DoesWriteStage, IsBefore}
use Rattle.core_plans.specs.LedBy.{Rules}
use Rattle.core_plans.specs.Needs.{leaders_of_write}
use Rattle.core_plans.specs.declared.held.HeldPlan.{HeldPlan}
use Rattle.core_plans.specs.declared.held.HeldPlan.TheVariants as of
use Rattle.core_plans.specs.declared.leaders.Leaders.{Leaders}
use Rattle.core_steps.specs.World.{World}
use Rattle.read_plan.specs.Ends.{EndsAt}
use Rattle.read_plan.specs.Readings.{Reading}
use Rattle.read_plan.specs.declared.end.ReadEnd.TheVariants as ended
use Rattle.read_plan.specs.declared.standing.Standing.{Standing}
use Rattle.read_plan.specs.declared.standing.Standing.TheVariants as read_at
use Rattle.replies.specs.declared.calls.CallReply.{CallReply}
use Rattle.replies.specs.declared.plans.PlanReply.TheVariants.{Ended, Next}
use Rattle.replies.specs.declared.plans.Stage.{Stage}
use Rattle.replies.specs.declared.refusals.Refusal.{Refusal}
use Rattle.replies.specs.declared.refusals.Refusal.TheVariants.{Memory}
use Rattle.replies.specs.declared.reply.Reply.{Reply}
use Rattle.replies.specs.declared.reply.Reply.TheVariants as replied
use Rattle.replies.specs.declared.reply.Reply.TheVariants.{Called, Refused}
use Rattle.shard_tables.specs.declared.writes.Wrote.{Wrote}
use Rattle.tao_core.specs.HeldCalls.{Advances, Held, Leaves, NumberedPlan, numbered_reply}
use Rattle.words.specs.declared.PlanWord.{PlanWord}
use Rattle.write_plan.specs.Plans.{Writing, after_stage, next_of, reply_by, reply_of, stage_from}
use Rattle.write_plan.specs.Stages.{stage_said}
use Rattle.write_plan.specs.declared.committed.Committed.{Committed}
use Rattle.write_plan.specs.declared.progress.OtherEnd.{OtherEnd}
use Rattle.write_plan.specs.declared.progress.WayBack.{WayBack}
use Rattle.write_plan.specs.declared.results.LeftOpen.{LeftOpen}
use Rattle.write_plan.specs.declared.results.LeftOpen.TheVariants as left
use Rattle.write_plan.specs.declared.results.WriteResult.TheVariants as came
use Rattle.write_plan.specs.declared.stage.WriteStage.{WriteStage}
use Rattle.write_plan.specs.declared.stage.WriteStage.TheVariants.{Apply, Commit, Done, End, Inverse, Relay}
use Rattle.headline_kept.proofs.Acknowledged.{way_left}
use Rattle.headline_kept.proofs.StageCauses.{OnlyBy, RefusedBy, ended_so, read_stage_fails, write_stage_fails}
use Rattle.headline_kept.proofs.WholeCauses.{end_keeps, inverse_keeps}

-- ---- a plan that is over with the reply of its call

-- a call is answered, or refused
abbrev pub IsPlain : Reply → Type 0
IsPlain (Called reply) = ⊤
IsPlain (Refused refusal) = ⊤
IsPlain other = ⊥

abbrev RefusedAs : Option Reply → Type 0
RefusedAs refused = IfSome refused (λ reply. (refusal : Refusal) × (reply ≡ Refused refusal))

plain_write : (refused : Option Reply) (committed : Option Committed) (job : OtherEnd) (hops : ℕ) (ended : Reply) → RefusedAs refused
    → reply_by refused committed job hops ≡ Some ended → IsPlain ended
plain_write (Some own) committed job hops ended fails is = subst IsPlain (sym fails.1 ∙ one_some own ended is) tt
plain_write None None job hops ended fails is = absurd (cc)
plain_write None (Some c) job hops ended fails is = subst IsPlain (one_some _ ended is) tt

plain_read : (P : Refusal → Type 0) (at : Standing) (q : Reading) (ended : Reply) → OnlyBy P at → EndsAt at q ended → IsPlain ended
plain_read P (read_at.Ended (ended.Answered answer version held)) q ended only is = subst IsPlain (sym is) tt
plain_read P (read_at.Ended (ended.Refused reply)) q ended only is = subst IsPlain (sym (is ∙ only.1)) tt
plain_read P read_at.Looking q ended only is = absurd is
plain_read P read_at.Asking q ended only is = absurd is
plain_read P read_at.Mastering q ended only is = absurd is
plain_read P (read_at.Keeping given) q ended only is = absurd is

refused_as : (P : Refusal → Type 0) (refused : Option Reply) → RefusedBy P refused → RefusedAs refused
refused_as P None fails = tt
refused_as P (Some reply) fails = (fails.0, fails.1)

-- a plan that did a stage, or ended without its last, is answered or refused, where it is over
pub plain_end : (rules : Rules) (before after : HeldPlan) (old new : World) (ended : Reply) → Advances rules before old after new → IsOver after ended
    → IsPlain ended
plain_end rules (of.Write p) (of.Write q) old new ended (inl steps) over =
    plain_write q.refused q.committed q.job q.hops ended (refused_as _ q.refused (write_stage_fails rules p q old new steps)) over
plain_end rules (of.Read p) (of.Read q) old new ended (inl steps) over =
    plain_read _ q.at q ended (read_stage_fails rules p q old new steps.steps.does) over
plain_end rules (of.Write p) (of.Read q) old new ended (inl steps) over = absurd steps
plain_end rules (of.Read p) (of.Write q) old new ended (inl steps) over = absurd steps
plain_end rules (of.Read p) (of.Read q) old new ended (inr ends) over =
    plain_read (λ refusal. ⊤) q.at q ended (ended_so (λ refusal. ⊤) p q old new (Memory 0) ends.gives tt) over
plain_end rules (of.Write p) (of.Write q) old new ended (inr ends) over =
    let given = subst (λ (r : Writing). reply_of r ≡ Some ended) ends.gives.0 over in
    subst IsPlain (one_some _ ended given) tt
plain_end rules (of.Write p) (of.Read q) old new ended (inr ends) over = absurd ends.gives
plain_end rules (of.Read p) (of.Write q) old new ended (inr ends) over = absurd ends.gives

-- the plan is over with this reply
pub record SaysEnd (plan : HeldPlan) (reply : CallReply) : Type 0 where
  pub over : IsOver plan (Called reply)
  pub none : next_stage plan ≡ None

numbered_called : (own number : ℕ) (ended : Reply) (reply : CallReply) → IsPlain ended → numbered_reply own ended ≡ replied.Plan (Ended number reply)
    → (own ≡ number) × (ended ≡ Called reply)
numbered_called own number (Called said) reply plain is = (cc, cc)
numbered_called own number (Refused refusal) reply plain is = absurd (cc)
numbered_called own number ended reply plain is = absurd plain

-- where a line says that a plan ended with a reply, that plan is over with it
pub says_end : (word : PlanWord) (by : NumberedPlan) (next : Option Stage) (reply : Reply) (number : ℕ) (told : CallReply) (old new : Held)
    → next_stage by.plan ≡ next → ((ended : Reply) → IsOver by.plan ended → IsPlain ended) → Leaves word by next old reply new
    → reply ≡ replied.Plan (Ended number told) → (by.number ≡ number) × SaysEnd by.plan told
says_end word by (Some stage) reply number told old new next plain goes is =
    let no : replied.Plan (Next word by.number stage) ≡ replied.Plan (Ended number told) = sym goes.said ∙ is in
    absurd (cc)
says_end word by None reply number told old new next plain ends is =
    let said = numbered_called by.number number ends.ended told (plain ends.ended ends.over) (sym ends.said ∙ is) in
    (said.0, record { over = subst (IsOver by.plan) said.1 ends.over; none = next })

-- ---- the last stage of a write

-- a write that isn't refused, and has its way back before it, isn't over
not_last : (c : Committed) (q : Writing) (committed : Option Committed) (refused : Option Reply) (job : OtherEnd) (back : WayBack) → committed ≡ Some c
    → refused ≡ None → IsBefore back → stage_said (stage_from refused committed job back) ≡ None → ⊥
not_last c q committed refused job back is none before over =
    way_left c.wrote.job job c.passed back before
    (subst (λ o. stage_said (stage_from None o job back) ≡ None) is
    (subst (λ r. stage_said (stage_from r committed job back) ≡ None) none over))

module _ (rules : Rules) (p q : Writing) (old new : World) (before : IsBefore p.back) (over : next_stage (of.Write q) ≡ None) (unrefused : q.refused ≡ None) where
  -- the stage left the job as it was, and the keepers
  pub record IsLast : Type 0 where
    pub job : q.job ≡ p.job
    pub keepers : new.keepers ≡ old.keepers

  -- it wasn't one with the way back before it
  no_last : (c : Committed) (back : WayBack) → q.committed ≡ Some c → q.back ≡ back → IsBefore back → IsLast
  no_last c back committed is first = absurd (not_last c q q.committed q.refused q.job q.back committed unrefused (subst IsBefore (sym is) first) over)

  no_refusal : (reply : Reply) → q.refused ≡ Some reply → IsLast
  no_refusal reply is = (let no : Some reply ≡ None = sym is ∙ unrefused in absurd (cc))

  commit_last : (leaders : Option Leaders) → CommitsBy rules leaders p old q new → IsLast
  commit_last (Some leaders) (inl commits) =
      no_last commits.committed p.back (ap (λ (r : Writing). r.committed) commits.then) (ap (λ (r : Writing). r.back) commits.then) before
  commit_last (Some leaders) (inr refuses) = no_refusal _ (ap (λ (r : Writing). r.refused) refuses.then)
  commit_last None finds = no_refusal _ (ap (λ (r : Writing). r.refused) finds.then)

  inverse_back : (result : Result Wrote LeftOpen) (hops : ℕ) → q ≡ after_stage p (came.Inverse result) hops → q.back ≡ p.back
  inverse_back (Ok wrote) hops is = ap (λ (r : Writing). r.back) is
  inverse_back (Err (left.Scheduled why wrote)) hops is = ap (λ (r : Writing). r.back) is
  inverse_back (Err (left.Refused reply)) hops is = ap (λ (r : Writing). r.back) is

  end_back : (result : Result ⊤ LeftOpen) (hops : ℕ) → q ≡ after_stage p (came.End result) hops → q.back ≡ p.back
  end_back (Ok done) hops is = ap (λ (r : Writing). r.back) is
  end_back (Err (left.Scheduled why wrote)) hops is = ap (λ (r : Writing). r.back) is
  end_back (Err (left.Refused reply)) hops is = ap (λ (r : Writing). r.back) is

  stage_last : (at : WriteStage) → DoesWriteStage rules at p old q new → IsLast
  stage_last Commit does = commit_last (leaders_of_write rules.settings old.states p) does
  stage_last Inverse m =
      no_last m.committed p.back (inverse_keeps rules p q old new m.result _ m.then ∙ m.answer) (inverse_back m.result _ m.then) before
  stage_last End e = ended_job p.committed refl e.answered
    where
      ended_job : (committed : Option Committed) → p.committed ≡ committed → option_and_then (λ (c : Committed). c.wrote.job) committed ≡ Some e.job → IsLast
      ended_job (Some c) is answered = no_last c p.back (end_keeps rules p q old new e.result _ e.then ∙ is) (end_back e.result _ e.then) before
      ended_job None is answered = absurd (cc)
  stage_last Relay (inl relays) =
      no_last relays.committed _ (ap (λ (r : Writing). r.committed) relays.then ∙ relays.answered) (ap (λ (r : Writing). r.back) relays.then) tt
  stage_last Relay (inr loses) = no_refusal _ (ap (λ (r : Writing). r.refused) loses.then)
  stage_last Apply (inl applies) = record { job = ap (λ (r : Writing). r.job) applies.then; keepers = applies.rest.keepers }
  stage_last Apply (inr loses) = no_refusal _ (ap (λ (r : Writing). r.refused) loses.then)
  stage_last Done does = absurd does

  pub write_last : ComesOfWrite rules p old q new → IsLast
  write_last (inl next) = stage_last (next_of p) next.does
  write_last (inr ended) = no_refusal _ (ended_down p q old new ended).refused
