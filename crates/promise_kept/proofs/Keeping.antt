-- The lines of calls, held or not, and those that open a session, keep the promise.
use Rattle.std.proofs.Common.{ℕ, Some, refl, sym, subst}
use Rattle.plain_promise.specs.Promise.{Plain}
use Rattle.promise_kept.proofs.WriteLines.{call_line}
use Rattle.promise_kept.proofs.OpenLines.{open_line}
use Rattle.promise_kept.proofs.PlanLines.{plan_line}
use Rattle.promise_kept.proofs.Saying.{plain_at}
use Rattle.promise_kept.specs.Lines.{CallsKeepPromise, KeepsLine, StepsPlainly}
use Rattle.promise_kept.specs.Seen.{IsPlainOf}
use Rattle.replies.specs.declared.reply.Reply.{Reply}
use Rattle.request_check.specs.declared.checked.Checked.{Checked}
use Rattle.request_check.specs.declared.checked.Checked.TheVariants as asks
use Rattle.request_check.specs.declared.checked.CheckedCall.{CheckedCall}
use Rattle.request_check.specs.declared.plans.CheckedPlan.{CheckedPlan}
use Rattle.tao_core.specs.Core.{Moment}

-- a plain state, with the stores as the keepers tell them
abbrev told_plain : Moment → Plain → Plain
told_plain m plain = plain_at m.core.settings m.keepers.told plain.learnt plain.seen plain.held plain.settled

told_so : (m : Moment) (plain : Plain) → IsPlainOf m plain → IsPlainOf m (told_plain m plain)
told_so m plain is = record { stores = refl; learnt = is.learnt; held = is.held; settled = is.settled }

-- a line's step from there is one from the state itself
from_told : (asked : Checked) (old : Moment) (plain : Plain) (reply : Reply) (new : Moment) → IsPlainOf old plain
    → StepsPlainly (Some asked) old (told_plain old plain) reply new → StepsPlainly (Some asked) old plain reply new
from_told asked old plain reply new is steps =
    subst (λ p. StepsPlainly (Some asked) old p reply new) (λ i. record plain { stores = sym is.stores i }) steps

pub calls_keep : (asked : CheckedCall) → KeepsLine (asks.Call asked)
calls_keep asked old new plain reply is line = from_told (asks.Call asked) old plain reply new is
    (call_line old new plain.learnt plain.seen plain.held plain.settled asked reply (told_so old plain is) line)

pub plans_keep : (asked : CheckedPlan) → KeepsLine (asks.Plan asked)
plans_keep asked old new plain reply is line = from_told (asks.Plan asked) old plain reply new is
    (plan_line old new plain.learnt plain.seen plain.held plain.settled asked reply (told_so old plain is) line)

pub opens_keep : (session region tier : ℕ) → KeepsLine (asks.Open session region tier)
opens_keep session region tier old new plain reply is line = from_told (asks.Open session region tier) old plain reply new is
    (open_line old new plain.learnt plain.seen plain.held plain.settled (told_so old plain is) session region tier reply line)

pub calls_keep_promise : CallsKeepPromise
calls_keep_promise = record { opens = opens_keep; calls = calls_keep; plans = plans_keep }
