-- Where something fails in a line, it fails rightly.
use Rattle.std.proofs.Common.{◌≡◌, ◌∙◌, ℕ, Bool, Some, Result, Ok, Err, sym, ap, subst, inl, inr}
use Rattle.core_plans.specs.Held.{Plans, plan_at}
use Rattle.replies.specs.declared.calls.CallReply.{CallReply}
use Rattle.replies.specs.declared.calls.CallReply.TheVariants as called
use Rattle.replies.specs.declared.calls.ScheduledWhy.{ScheduledWhy}
use Rattle.replies.specs.declared.calls.WriteReply.{WriteReply}
use Rattle.replies.specs.declared.plans.PlanReply.TheVariants.{Ended}
use Rattle.replies.specs.declared.refusals.Refusal.{Refusal}
use Rattle.replies.specs.declared.reply.Reply.{Reply}
use Rattle.replies.specs.declared.reply.Reply.TheVariants.{Plan}
use Rattle.request_check.specs.declared.checked.Checked.{Checked}
use Rattle.request_check.specs.declared.checked.Checked.TheVariants as asked
use Rattle.request_check.specs.declared.plans.CheckedPlan.{CheckedPlan}
use Rattle.requests.specs.declared.request.Request.{Request}
use Rattle.tao_core.specs.Asked.{asked_of}
use Rattle.tao_core.specs.Core.{Moment}
use Rattle.tao_core.specs.HeldCalls.{AnswersPlan}
use Rattle.tao_core.specs.Replies.{AnswersAsked, AnswersRequest}
use Rattle.tao_keeper.specs.KeeperState.{KeepsTables}
use Rattle.headline_kept.specs.Headline.{IsAnswered, LinesFailRightly}
use Rattle.headline_kept.specs.Machine.{StepsAsSaid}
use Rattle.headline_kept.specs.Scheduled.{SchedulesWithCause, WasOrIsLeftOpen, left_open, why_scheduled}
use Rattle.headline_kept.specs.Standing.{Asks}
use Rattle.headline_kept.proofs.HeldJobs.{plan_ends, plan_left, plan_open}
use Rattle.headline_kept.proofs.MachineRows.{leaves_row, retry_row, scheduled_row}
use Rattle.headline_kept.proofs.PlansStay.{IsOfPlan, plans_stay}
use Rattle.headline_kept.proofs.Refusals.{lines_refuse_rightly}

module _ (tells : Bool) (old : Moment) (request : Request) (reply : Reply) (new : Moment) (is : IsAnswered tells old request reply new) where
  -- what was asked of a plan was answered, where the reply says that the plan ended with one
  plan_answered : (what : CheckedPlan) (number : ℕ) (told : CallReply) → Asks old request (asked.Plan what) → reply ≡ Plan (Ended number told)
      → AnswersPlan tells what old reply new
  plan_answered what number told asks said = by is.answers
    where
      by : AnswersRequest tells old request reply new → AnswersPlan tells what old reply new
      by (inl wants) = absurd (cc (sym wants.reply_is ∙ said))
      by (inr answers) = subst (λ found. AnswersAsked tells old found reply new) asks answers

  ends : (what : CheckedPlan) (number : ℕ) (told : CallReply) → Asks old request (asked.Plan what) → reply ≡ Plan (Ended number told)
      → KeepsTables tells old.keepers new.keepers
  ends what number told asks said = plan_ends tells old reply new is.before what number told (plan_answered what number told asks said) said

  left : (what : CheckedPlan) (number : ℕ) (told : WriteReply) (why : ScheduledWhy) → Asks old request (asked.Plan what)
      → reply ≡ Plan (Ended number (called.Write told)) → why_scheduled told.written.inverse ≡ Some why
      → left_open (plan_at old.core.plans number) ≡ Some why
  left what number told why asks said scheduled =
      plan_left tells old reply new is.before what number told why (plan_answered what number (called.Write told) asks said) said scheduled

  -- what is left open of the plans that are held
  module _ (number : ℕ) (why : ScheduledWhy) (open_for : left_open (plan_at new.core.plans number) ≡ Some why) where
    abbrev Was : Type 0
    Was = WasOrIsLeftOpen tells (plan_at old.core.plans number) old why new

    same : new.core.plans ≡ old.core.plans → Was
    same plans = inl (subst (λ (ps : Plans). left_open (plan_at ps number) ≡ Some why) plans open_for)

    other : (what : Checked) → (IsOfPlan tells old new what → ⊥) → AnswersAsked tells old (Ok what) reply new → Was
    other what not answers = same (plans_stay tells old new what reply not answers)

    by_asked : (found : Result Checked Refusal) → AnswersAsked tells old found reply new → Was
    by_asked (Err refused) answers = same (ap (λ (m : Moment). m.core.plans) answers.1)
    by_asked (Ok (asked.Plan what)) answers = plan_open tells old reply new is.before what number why answers open_for
    by_asked (Ok (asked.Open session region tier)) answers = other (asked.Open session region tier) (λ x. x) answers
    by_asked (Ok (asked.Call made)) answers = other (asked.Call made) (λ x. x) answers
    by_asked (Ok (asked.Cache made)) answers = other (asked.Cache made) (λ x. x) answers
    by_asked (Ok (asked.Store made)) answers = other (asked.Store made) (λ x. x) answers
    by_asked (Ok (asked.Link made)) answers = other (asked.Link made) (λ x. x) answers
    by_asked (Ok (asked.Health made)) answers = other (asked.Health made) (λ x. x) answers

    by_request : AnswersRequest tells old request reply new → Was
    by_request (inl wants) = same (ap (λ (m : Moment). m.core.plans) wants.same)
    by_request (inr answers) = by_asked (asked_of old.core.settings old.core.sessions old.core.plans request) answers

    held : Was
    held = by_request is.answers

  steps_so : StepsAsSaid tells old request reply new
  steps_so = record {
    leaves = λ write position asks told so. leaves_row tells old request reply new is so write position asks told;
    retry = λ write told asks said again so. retry_row tells old request reply new is so write told asks said again;
    ends = ends;
  }

  scheduled_so : SchedulesWithCause tells old request reply new
  scheduled_so = record {
    at_once = λ write told why asks said scheduled. scheduled_row tells old request reply new is write told why asks said scheduled;
    held = held;
    ends = left;
  }

pub lines_fail_rightly : LinesFailRightly
lines_fail_rightly = record {
  fails = λ tells old new request reply is. record {
    histories = lines_refuse_rightly.histories tells old new request reply is;
    cause = lines_refuse_rightly.causes tells old new request reply is;
    steps = steps_so tells old request reply new is;
    scheduled = scheduled_so tells old request reply new is;
  };
}
