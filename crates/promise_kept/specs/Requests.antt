-- That every request keeps the promise, whatever it asks.
use Rattle.std.specs.Prelude.{◌≡◌, ◌⊎◌, true, Option, Some, None, Ok, Err}
use Rattle.plain_promise.specs.Promise.{Plain}
use Rattle.promise_kept.specs.Lines.{Asks, GoesOnUsable, StepsPlainly}
use Rattle.promise_kept.specs.Seen.{IsPlainOf}
use Rattle.replies.specs.declared.refusals.Refusal.{Refusal}
use Rattle.replies.specs.declared.refusals.Refusal.TheVariants.{Memory}
use Rattle.replies.specs.declared.reply.Reply.{Reply}
use Rattle.replies.specs.declared.reply.Reply.TheVariants.{Refused}
use Rattle.request_check.specs.declared.checked.Checked.{Checked}
use Rattle.requests.specs.declared.request.Request.{Request}
use Rattle.tao_core.specs.Asked.{asked_of}
use Rattle.tao_core.specs.Core.{Moment}
use Rattle.tao_core.specs.Replies.{AnswersRequest}

-- the request asks this at the moment, and it can be done; or it was refused before anything was done: there was no memory, or what it asks can't be done, and
-- the reply is that refusal
abbrev pub IsAskedAt : Moment → Request → Option Checked → Reply → Type 0
IsAskedAt now request None reply = (reply ≡ Refused (Memory 0))
    ⊎ ((refusal : Refusal) × (reply ≡ Refused refusal) × (asked_of now.core.settings now.core.sessions now.core.plans request ≡ Err refusal))
IsAskedAt now request (Some asked) reply = asked_of now.core.settings now.core.sessions now.core.plans request ≡ Ok asked

-- the line's step of the promise, whatever it asks
pub record KeepsItsLine (request : Request) (old : Moment) (plain : Plain) (reply : Reply) (new : Moment) : Type 0 where
  pub asked : Option Checked
  pub is_asked : IsAskedAt old request asked reply
  pub asks : Asks asked old reply new
  pub steps : StepsPlainly asked old plain reply new

-- every request keeps the promise
pub record RequestsKeepPromise : Type 0 where
  pub keeps : (old new : Moment) (plain : Plain) (request : Request) (reply : Reply) → IsPlainOf old plain → GoesOnUsable old new
      → AnswersRequest true old request reply new → KeepsItsLine request old plain reply new
