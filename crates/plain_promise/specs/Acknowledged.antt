-- The writes that a run acknowledges, and that each of them stands from then on.
use Rattle.std.specs.Prelude.{ℕ, ◌≡◌, ◌<◌, ◌⊎◌, ◌==◌, List, [], ◌∷◌, Option, Some, None, if◌then◌else◌}
use Rattle.std.specs.Option.{option_map}
use Rattle.replies.specs.declared.calls.CallReply.TheVariants as called
use Rattle.replies.specs.declared.calls.WriteReply.{WriteReply}
use Rattle.replies.specs.declared.plans.PlanReply.TheVariants.{Ended}
use Rattle.replies.specs.declared.reply.Reply.{Reply}
use Rattle.replies.specs.declared.reply.Reply.TheVariants.{Called, Plan}
use Rattle.request_check.specs.declared.checked.Checked.{Checked}
use Rattle.request_check.specs.declared.checked.Checked.TheVariants as asks
use Rattle.request_check.specs.declared.checked.CheckedCall.{CheckedCall}
use Rattle.request_check.specs.declared.checked.CheckedCall.TheVariants.{Write}
use Rattle.request_check.specs.declared.checked.CheckedWrite.{CheckedWrite}
use Rattle.request_check.specs.declared.plans.CheckedPlan.TheVariants.{Advance, Hold}
use Rattle.tao_base.specs.EdgeTypes.{EdgeTypes}
use Rattle.tao_base.specs.declared.entry.Entry.{Entry}
use Rattle.plain_promise.specs.Promise.{Begun, IsWellKept, Plain, RunsPlainly, Said, client_write_of}
use Rattle.write_model.specs.Machine.{StandsFor}
use Rattle.write_model.specs.Merges.{Stores}

-- ---- which write a line is of

-- the call that each plan was last begun for
abbrev pub Calls : Type 0
Calls = ℕ → Option CheckedCall

-- before the first line no plan was begun
abbrev pub no_calls : Calls
no_calls plan = None

-- the calls of the plans after a line: a `hold` begins one
abbrev pub calls_after : Calls → Option Checked → Calls
calls_after calls (Some (asks.Plan (Hold plan call))) number = if number == plan then Some call else calls number
calls_after calls asked number = calls number

-- the call that a line is of: the one that it makes, begins, or goes on with
abbrev pub call_of_line : Calls → Option Checked → Option CheckedCall
call_of_line calls (Some (asks.Call call)) = Some call
call_of_line calls (Some (asks.Plan (Hold plan call))) = Some call
call_of_line calls (Some (asks.Plan (Advance plan))) = calls plan
call_of_line calls asked = None

-- ---- what is acknowledged

-- the Ok reply to a write, held or not
abbrev pub reply_to_write : Reply → Option WriteReply
reply_to_write (Called (called.Write reply)) = Some reply
reply_to_write (Plan (Ended number (called.Write reply))) = Some reply
reply_to_write other = None

-- the line acknowledges the write: it is of it, and its Ok reply says the position of an entry
pub record Acknowledges (calls : Calls) (said : Said) (write : CheckedWrite) (position : ℕ) : Type 0 where
  pub reply : WriteReply
  pub of : call_of_line calls said.asked ≡ Some (Write write)
  pub replied : reply_to_write said.reply ≡ Some reply
  pub position_is : reply.written.position ≡ position
  pub some : 0 < position

-- one of the lines acknowledges the write
abbrev pub IsAcknowledgedIn : Calls → List Said → CheckedWrite → ℕ → Type 0
IsAcknowledgedIn calls [] write position = ⊥
IsAcknowledgedIn calls (said ∷ saids) write position =
    Acknowledges calls said write position ⊎ IsAcknowledgedIn (calls_after calls said.asked) saids write position

-- ---- what stands

-- the write's entry stands at the position in the log of its shard, under the write's session and number, and as it asked
pub record StandsAtPosition (stores : Stores) (write : CheckedWrite) (position : ℕ) : Type 0 where
  pub entry : Entry
  pub stands : StandsFor stores.logs (client_write_of stores write) entry
  pub position_is : entry.position ≡ position

-- the calls of the plans, as the state has them
abbrev pub calls_held : Plain → Calls
calls_held state number = option_map (λ (began : Begun). began.call) (state.held number)

-- whatever lines follow one another from a state on: a write that one of them acknowledges stands after all of them, and each log has each origin once from
-- the first acknowledged write on; what was well kept stays so
pub record AcknowledgedStands (types : EdgeTypes) (old : Plain) (saids : List Said) (new : Plain) : Type 0 where
  pub stands : (write : CheckedWrite) (position : ℕ) → RunsPlainly types old saids new → IsAcknowledgedIn (calls_held old) saids write position
      → StandsAtPosition new.stores write position
  pub kept : (write : CheckedWrite) (position : ℕ) → RunsPlainly types old saids new → IsAcknowledgedIn (calls_held old) saids write position
      → IsWellKept types new.stores
  pub stays : RunsPlainly types old saids new → IsWellKept types old.stores → IsWellKept types new.stores
