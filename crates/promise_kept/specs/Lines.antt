-- That one line keeps the promise: from what the core says of a line to what the plain state says of it.
use Rattle.std.specs.Prelude.{ℕ, ◌≡◌, Option, Some, None, Ok, false, true}
use Rattle.plain_promise.specs.Promise.{AreSameReplies, Plain, SaysPlainly}
use Rattle.replies.specs.declared.calls.CallReply.TheVariants as called
use Rattle.replies.specs.declared.calls.ReadReply.{ReadReply}
use Rattle.replies.specs.declared.nodes.KeptOrNot.TheVariants.{Kept}
use Rattle.replies.specs.declared.refusals.Refusal.{Refusal}
use Rattle.replies.specs.declared.reply.Reply.{Reply}
use Rattle.replies.specs.declared.reply.Reply.TheVariants.{Called, Refused}
use Rattle.request_check.specs.declared.caches.CheckedCache.{CheckedCache}
use Rattle.request_check.specs.declared.checked.Checked.{Checked}
use Rattle.request_check.specs.declared.checked.Checked.TheVariants as asks
use Rattle.request_check.specs.declared.checked.CheckedCall.{CheckedCall}
use Rattle.request_check.specs.declared.checked.CheckedCall.TheVariants as call
use Rattle.request_check.specs.declared.checked.CheckedRead.{CheckedRead}
use Rattle.request_check.specs.declared.health.CheckedHealth.{CheckedHealth}
use Rattle.request_check.specs.declared.links.CheckedLink.{CheckedLink}
use Rattle.request_check.specs.declared.plans.CheckedPlan.{CheckedPlan}
use Rattle.request_check.specs.declared.stores.CheckedStore.{CheckedStore}
use Rattle.tao_core.specs.Asked.{CanBeDone}
use Rattle.tao_core.specs.Core.{IsCoreOf, Moment, StaysUsable}
use Rattle.tao_core.specs.Replies.{AnswersAsked}
use Rattle.promise_kept.specs.Seen.{IsPlainOf}
use Rattle.tao_schema.specs.Schema.{types_of}

-- ---- a line

-- what each line keeps: the core may be used before it and after it, and it went on
pub record GoesOnUsable (old new : Moment) : Type 0 where
  pub before : IsCoreOf true old.keepers.told old.core
  pub after : StaysUsable true old.keepers new.keepers old.core new.core

-- a line that asks something, and what the core says of its reply
pub record IsLine (asked : Checked) (old : Moment) (reply : Reply) (new : Moment) : Type 0 where
  pub can : CanBeDone old.core.settings old.core.sessions old.core.plans asked
  pub on : GoesOnUsable old new
  pub answers : AnswersAsked true old (Ok asked) reply new

-- a line that was refused before anything was done, and so changed nothing
pub record IsNoLine (old : Moment) (reply : Reply) (new : Moment) : Type 0 where
  pub refusal : Refusal
  pub reply_is : reply ≡ Refused refusal
  pub same : new ≡ old

-- what a line asks, where it was not refused before anything was done
abbrev pub Asks : Option Checked → Moment → Reply → Moment → Type 0
Asks None old reply new = IsNoLine old reply new
Asks (Some asked) old reply new = IsLine asked old reply new

-- ---- the laws of lines

-- the line is a step of the promise, to a state that the core is then seen as
pub record StepsPlainly (asked : Option Checked) (old : Moment) (plain : Plain) (reply : Reply) (new : Moment) : Type 0 where
  pub after : Plain
  pub says : SaysPlainly (types_of old.core.settings.schema) plain asked reply after
  pub seen : IsPlainOf new after

-- each line that asks this keeps the promise
abbrev pub KeepsLine : Checked → Type 0
KeepsLine asked = (old new : Moment) (plain : Plain) (reply : Reply) → IsPlainOf old plain → IsLine asked old reply new
    → StepsPlainly (Some asked) old plain reply new

-- the lines of calls, held or not, and those that open a session
pub record CallsKeepPromise : Type 0 where
  pub opens : (session region tier : ℕ) → KeepsLine (asks.Open session region tier)
  pub calls : (asked : CheckedCall) → KeepsLine (asks.Call asked)
  pub plans : (asked : CheckedPlan) → KeepsLine (asks.Plan asked)

-- the other lines
pub record OthersKeepPromise : Type 0 where
  pub stores : (asked : CheckedStore) → KeepsLine (asks.Store asked)
  pub caches : (asked : CheckedCache) → KeepsLine (asks.Cache asked)
  pub links : (asked : CheckedLink) → KeepsLine (asks.Link asked)
  pub health : (asked : CheckedHealth) → KeepsLine (asks.Health asked)

-- ---- two lines

-- a read that isn't critical, and that is said to be kept, is answered the same where the next line asks it again
pub record KeptAnswersAgain : Type 0 where
  pub same : (old mid new : Moment) (read : CheckedRead) (a b : ReadReply) → read.critical ≡ false
      → IsLine (asks.Call (call.Read read)) old (Called (called.Read a)) mid → IsLine (asks.Call (call.Read read)) mid (Called (called.Read b)) new
      → a.kept ≡ Kept → AreSameReplies a b
