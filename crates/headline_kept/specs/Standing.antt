-- What stands of the write that a line carries out.
use Rattle.std.specs.Prelude.{ℕ, ◌≡◌, ◌<◌, ⊤, Bool, Option, Some, None, Ok, if◌then◌else◌, option_and_then}
use Rattle.core_model.specs.Stores.{master_log}
use Rattle.core_plans.specs.Held.{Plans, plan_at}
use Rattle.core_plans.specs.HeldWrites.{call_of_plan}
use Rattle.core_plans.specs.declared.held.HeldPlan.{HeldPlan}
use Rattle.core_plans.specs.declared.held.HeldPlan.TheVariants as of
use Rattle.core_model.specs.Asked.{AuthoredWrite, client_call}
use Rattle.graph_model.specs.Log.{entry_at}
use Rattle.graph_model.specs.Told.{WhereTold}
use Rattle.plain_promise.specs.Promise.{HasEachOnce}
use Rattle.replies.specs.declared.calls.CallReply.TheVariants as called
use Rattle.replies.specs.declared.calls.Written.{Written}
use Rattle.replies.specs.declared.plans.PlanReply.TheVariants.{Ended}
use Rattle.replies.specs.declared.refusals.When.{When}
use Rattle.replies.specs.declared.refusals.When.TheVariants.{Before, After}
use Rattle.replies.specs.declared.reply.Reply.{Reply}
use Rattle.replies.specs.declared.reply.Reply.TheVariants.{Called, Plan}
use Rattle.request_check.specs.declared.checked.Checked.{Checked}
use Rattle.request_check.specs.declared.checked.Checked.TheVariants as asked
use Rattle.request_check.specs.declared.checked.CheckedCall.{CheckedCall}
use Rattle.request_check.specs.declared.checked.CheckedCall.TheVariants as call
use Rattle.request_check.specs.declared.plans.CheckedPlan.TheVariants as plan
use Rattle.requests.specs.declared.request.Request.{Request}
use Rattle.tao_base.specs.Writes.{write_shard}
use Rattle.tao_base.specs.declared.entry.Entry.{Entry}
use Rattle.tao_base.specs.declared.entry.Origin.TheVariants.{Client}
use Rattle.tao_core.specs.Asked.{asked_of}
use Rattle.tao_core.specs.Core.{Moment}
use Rattle.tao_keeper.specs.Table.{Tables}
use Rattle.topology.specs.Config.{Settings}
use Rattle.write_model.specs.Writes.{FitsWrite}

-- ---- what is asked

-- the request asks this
abbrev pub Asks : Moment → Request → Checked → Type 0
Asks now request what = asked_of now.core.settings now.core.sessions now.core.plans request ≡ Ok what

-- the write of a call, under its session and its number
abbrev pub write_of_call : CheckedCall → Option AuthoredWrite
write_of_call (call.Write write) = Some (client_call (Client write.session write.seq) write.write)
write_of_call (call.Read read) = None

-- the write that a plan carries out
abbrev pub write_of_plan : HeldPlan → Option AuthoredWrite
write_of_plan (of.Write p) = Some (call_of_plan p)
write_of_plan (of.Read p) = None

-- the write that a line carries out: that of its call, or that of the plan that it advances
abbrev pub write_of : Plans → Checked → Option AuthoredWrite
write_of plans (asked.Call made) = write_of_call made
write_of plans (asked.Plan (plan.Hold number made)) = write_of_call made
write_of plans (asked.Plan (plan.Advance number)) = option_and_then write_of_plan (plan_at plans number)
write_of plans other = None

-- ---- what stands

-- an entry that fits the write, under its very origin, stands in its shard's log at the position
pub record StandsAt (s : Settings) (tables : Tables) (write : AuthoredWrite) (position : ℕ) : Type 0 where
  pub entry : Entry
  pub stands : entry_at (master_log s tables (write_shard write.write)) position ≡ Some entry
  pub fits : FitsWrite entry write.write
  pub own : entry.origin ≡ write.origin

-- there is such a write, and where the tables are told its own entry stands there
abbrev pub StandsTold : Bool → Settings → Tables → Option AuthoredWrite → ℕ → Type 0
StandsTold tells s tables None position = ⊥
StandsTold tells s tables (Some write) position = WhereTold tells (StandsAt s tables write position)

-- where a refusal says that it came after an entry was written, that stands
abbrev pub StandsWhen : Bool → Settings → Tables → Option AuthoredWrite → When → Type 0
StandsWhen tells s tables write Before = ⊤
StandsWhen tells s tables write (After position) = StandsTold tells s tables write position

-- ---- what was acknowledged

-- the position of what was written, if anything was
abbrev pub written_at : Written → Option ℕ
written_at written = if written.changed then Some written.position else None

-- the position that an Ok reply to a write tells, held or not, where the write has an entry
abbrev pub acknowledged : Reply → Option ℕ
acknowledged (Called (called.Write reply)) = written_at reply.written
acknowledged (Plan (Ended number (called.Write reply))) = written_at reply.written
acknowledged other = None

-- where the line carries out a write, held or not, and its Ok reply says a position, the write's own entry stands there. What stood before the line stands
-- after it, and no log has two entries of one origin
pub record KeepsAcknowledged (tells : Bool) (old : Moment) (request : Request) (reply : Reply) (new : Moment) : Type 0 where
  pub written : (what : Checked) (write : AuthoredWrite) (position : ℕ) → Asks old request what → write_of old.core.plans what ≡ Some write
      → acknowledged reply ≡ Some position → WhereTold tells (StandsAt old.core.settings new.keepers.told write position)
  pub stays : (write : AuthoredWrite) (position : ℕ) → WhereTold tells (StandsAt old.core.settings old.keepers.told write position
      → StandsAt old.core.settings new.keepers.told write position)
  pub once : (shard : ℕ) → shard < old.core.settings.shards → WhereTold tells (HasEachOnce (master_log old.core.settings new.keepers.told shard))
