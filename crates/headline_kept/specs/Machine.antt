-- What a write does to the histories, by what its reply says: the rows of the plain machine.
use Rattle.std.specs.Prelude.{ℕ, ◌≡◌, zero, suc, true, Bool, Option, Some, None}
use Rattle.graph_model.specs.Told.{WhereTold}
use Rattle.headline_kept.specs.Standing.{Asks, acknowledged}
use Rattle.plain_promise.specs.Promise.{Logs, client_write_of, refused_at}
use Rattle.promise_kept.specs.Seen.{stores_at}
use Rattle.replies.specs.declared.calls.CallReply.{CallReply}
use Rattle.replies.specs.declared.calls.CallReply.TheVariants as called
use Rattle.replies.specs.declared.calls.WriteReply.{WriteReply}
use Rattle.replies.specs.declared.plans.PlanReply.TheVariants.{Ended}
use Rattle.replies.specs.declared.reply.Reply.{Reply}
use Rattle.replies.specs.declared.reply.Reply.TheVariants.{Called, Plan, Refused}
use Rattle.request_check.specs.declared.checked.Checked.TheVariants as asked
use Rattle.request_check.specs.declared.checked.CheckedCall.TheVariants as call
use Rattle.request_check.specs.declared.checked.CheckedWrite.{CheckedWrite}
use Rattle.request_check.specs.declared.plans.CheckedPlan.{CheckedPlan}
use Rattle.requests.specs.declared.request.Request.{Request}
use Rattle.tao_base.specs.EdgeTypes.{EdgeTypes}
use Rattle.tao_base.specs.declared.entry.Entry.{Entry}
use Rattle.tao_core.specs.Core.{Moment}
use Rattle.tao_keeper.specs.KeeperState.{KeepsTables}
use Rattle.tao_schema.specs.Schema.{types_of}
use Rattle.write_model.specs.Machine.{ClientWrite, LeavesEntry, Repeats}

-- the position, unless it is 0
abbrev pub above_zero : ℕ → Option ℕ
above_zero zero = None
above_zero (suc n) = Some (suc n)

-- the position that the reply to a write tells, whether Ok or a refusal, at which its entry stands
abbrev pub said_position : Reply → Option ℕ
said_position (Refused refusal) = above_zero (refused_at refusal)
said_position reply = acknowledged reply

-- the logs were left with the write's entry at the position: a new one, or the one that stood there, under the write's session and number, and as it asked.
-- Its job may have been merged, and no log has anything else that it hadn't before
pub record LeavesAt (types : EdgeTypes) (old new : Logs) (w : ClientWrite) (position : ℕ) : Type 0 where
  pub entry : Entry
  pub other : ℕ
  pub leaves : LeavesEntry types old new w entry other
  pub position_is : entry.position ≡ position

-- the entry stood there before, and nothing was added but perhaps the merge of its job
pub record RepeatsAt (types : EdgeTypes) (old new : Logs) (w : ClientWrite) (position : ℕ) : Type 0 where
  pub entry : Entry
  pub other : ℕ
  pub repeats : Repeats types old new w entry other
  pub position_is : entry.position ≡ position

-- between two moments the logs changed as `Row` says for a client's write at a position
abbrev pub BetweenLogs : (EdgeTypes → Logs → Logs → ClientWrite → ℕ → Type 0) → Moment → CheckedWrite → ℕ → Moment → Type 0
BetweenLogs Row old write position new =
    Row (types_of old.core.settings.schema) (stores_at old).logs (stores_at new).logs (client_write_of (stores_at old) write) position

-- a write that isn't held, and whose reply says a position, leaves its entry there, be it answered or refused. Where the reply says `retry`, the entry stood
-- there before. The line that ends a held call with its reply changes no table: what is said of it was done by the lines before
pub record StepsAsSaid (tells : Bool) (old : Moment) (request : Request) (reply : Reply) (new : Moment) : Type 0 where
  pub leaves : (write : CheckedWrite) (position : ℕ) → Asks old request (asked.Call (call.Write write)) → said_position reply ≡ Some position
      → WhereTold tells (BetweenLogs LeavesAt old write position new)
  pub retry : (write : CheckedWrite) (said : WriteReply) → Asks old request (asked.Call (call.Write write)) → reply ≡ Called (called.Write said)
      → said.written.retry ≡ true → WhereTold tells (BetweenLogs RepeatsAt old write said.written.position new)
  pub ends : (plan : CheckedPlan) (number : ℕ) (said : CallReply) → Asks old request (asked.Plan plan) → reply ≡ Plan (Ended number said)
      → KeepsTables tells old.keepers new.keepers
