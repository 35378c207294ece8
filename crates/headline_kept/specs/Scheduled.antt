-- Why the inverse of a write is only scheduled.
use Rattle.std.specs.Prelude.{ℕ, ◌≡◌, ◌⊎◌, ⊤, Bool, Option, Some, None}
use Rattle.core_model.specs.Jobs.{CanBeMerged, ShardJob, far_shard, job_on}
use Rattle.core_nodes.specs.Repairs.{FindsNoRoom}
use Rattle.core_plans.specs.Held.{plan_at}
use Rattle.core_plans.specs.HeldWrites.{job_by}
use Rattle.core_plans.specs.Needs.{tier_of_write}
use Rattle.core_plans.specs.declared.held.HeldPlan.{HeldPlan}
use Rattle.core_plans.specs.declared.held.HeldPlan.TheVariants as of
use Rattle.core_sessions.specs.Sessions.{Session, session_at}
use Rattle.core_steps.specs.OtherEnds.{master_leader}
use Rattle.core_steps.specs.World.{World}
use Rattle.core_steps.specs.declared.routes.TierPlace.{TierPlace}
use Rattle.counts.specs.Count.{Rose}
use Rattle.graph_model.specs.Told.{WhereTold}
use Rattle.replies.specs.declared.calls.CallReply.TheVariants as called
use Rattle.replies.specs.declared.calls.InverseEnd.{InverseEnd}
use Rattle.replies.specs.declared.calls.InverseEnd.TheVariants as inverse
use Rattle.replies.specs.declared.calls.ScheduledWhy.{ScheduledWhy}
use Rattle.replies.specs.declared.calls.ScheduledWhy.TheVariants.{KeeperFault, LinkFault, LogFull, Memory, NoServer}
use Rattle.replies.specs.declared.calls.WriteReply.{WriteReply}
use Rattle.replies.specs.declared.plans.PlanReply.TheVariants.{Ended}
use Rattle.replies.specs.declared.reply.Reply.{Reply}
use Rattle.replies.specs.declared.reply.Reply.TheVariants.{Called, Plan}
use Rattle.request_check.specs.declared.checked.Checked.TheVariants as asked
use Rattle.request_check.specs.declared.checked.CheckedCall.TheVariants as call
use Rattle.request_check.specs.declared.checked.CheckedWrite.{CheckedWrite}
use Rattle.request_check.specs.declared.plans.CheckedPlan.{CheckedPlan}
use Rattle.requests.specs.declared.request.Request.{Request}
use Rattle.tao_base.specs.Writes.{write_shard}
use Rattle.tao_core.specs.Calls.{world_of}
use Rattle.tao_core.specs.Core.{Moment}
use Rattle.tao_keeper.specs.declared.jobs.Job.{Job}
use Rattle.topology.specs.Config.{Settings}
use Rattle.write_plan.specs.Plans.{Writing, answered_job}
use Rattle.write_plan.specs.declared.progress.OtherEnd.{OtherEnd}
use Rattle.write_plan.specs.declared.progress.OtherEnd.TheVariants.{Open}
use Rattle.headline_kept.specs.Standing.{Asks}

-- ---- what it comes of

-- the job of a write's entry, and the tier of the session that wrote it
pub record OwedJob : Type 0 where
  pub by : TierPlace
  pub job : ShardJob

-- a job of that shard, for that tier
abbrev pub owed_job : TierPlace → ℕ → Job → OwedJob
owed_job by shard job = record { by = by; job = job_on shard job }

-- why a job stays open, by what the keepers and the link showed before and after: a fault, whose count rose in between; the log at its other end, which has no
-- room for the entry that is to be written there; or that no leader of that shard can be chosen. Out of memory needs no cause
abbrev pub OpenCause : Bool → Settings → OwedJob → World → ScheduledWhy → World → Type 0
OpenCause tells s owed old LinkFault new = Rose old.link.faults new.link.faults
OpenCause tells s owed old KeeperFault new = Rose old.keepers.faults new.keepers.faults
OpenCause tells s owed old LogFull new = WhereTold tells ((count : ℕ) × FindsNoRoom s owed.job count new.keepers)
OpenCause tells s owed old NoServer new = master_leader s old.states owed.by (far_shard owed.job.job) ≡ None
OpenCause tells s owed old Memory new = ⊤

-- ---- what says so

-- the reason for which an inverse is scheduled
abbrev pub why_scheduled : InverseEnd → Option ScheduledWhy
why_scheduled (inverse.Scheduled why) = Some why
why_scheduled other = None

-- what a job is left open for
abbrev pub why_open : OtherEnd → Option ScheduledWhy
why_open (Open why) = Some why
why_open other = None

-- what the job of a held plan is left open for, where that plan is a write
abbrev pub left_open : Option HeldPlan → Option ScheduledWhy
left_open (Some (of.Write p)) = why_open p.job
left_open (Some (of.Read p)) = None
left_open None = None

-- ---- a write that isn't held

-- the tier of a session
abbrev pub tier_of : Session → TierPlace
tier_of session = record { region = session.region; tier = session.tier }

-- the session of the write is open. The entry at the position in the write's shard owes a job, which was left open for this reason
pub record IsScheduled (tells : Bool) (old : Moment) (write : CheckedWrite) (reply : WriteReply) (why : ScheduledWhy) (new : Moment) : Type 0 where
  pub session : Session
  pub found : session_at old.core.sessions write.session ≡ Some session
  pub job : Job
  pub position_is : WhereTold tells (job.position ≡ reply.written.position)
  pub owed : CanBeMerged tells old.core.settings new.keepers.told (job_on (write_shard write.write) job)
  pub cause : OpenCause tells old.core.settings (owed_job (tier_of session) (write_shard write.write) job) (world_of old) why (world_of new)

-- ---- a write that is held

-- the job that the commit of the write answered was left open between the two scenes, for this reason
pub record LeavesOpen (tells : Bool) (s : Settings) (p : Writing) (old : World) (why : ScheduledWhy) (new : World) : Type 0 where
  pub job : Job
  pub answered : answered_job p ≡ Some job
  pub cause : OpenCause tells s (record { by = tier_of_write p; job = job_by p job }) old why new

-- the job of the plan was left open before, for this reason, or it is a write whose job is left open so by now
abbrev pub WasOrIsLeftOpen : Bool → Option HeldPlan → Moment → ScheduledWhy → Moment → Type 0
WasOrIsLeftOpen tells before old why new = (left_open before ≡ Some why)
    ⊎ ((p : Writing) × (before ≡ Some (of.Write p)) × LeavesOpen tells old.core.settings p (world_of old) why (world_of new))

-- ---- a line

-- where the Ok reply to a write says that its inverse is scheduled, and why, that has its cause in this request. Of a held write the cause is in the line that
-- left its job open: a job that is left open of a plan that is held was so before the line, or is so by it. The line that ends the plan tells what it was
-- before
pub record SchedulesWithCause (tells : Bool) (old : Moment) (request : Request) (reply : Reply) (new : Moment) : Type 0 where
  pub at_once : (write : CheckedWrite) (said : WriteReply) (why : ScheduledWhy) → Asks old request (asked.Call (call.Write write))
      → reply ≡ Called (called.Write said) → why_scheduled said.written.inverse ≡ Some why → IsScheduled tells old write said why new
  pub held : (number : ℕ) (why : ScheduledWhy) → left_open (plan_at new.core.plans number) ≡ Some why
      → WasOrIsLeftOpen tells (plan_at old.core.plans number) old why new
  pub ends : (plan : CheckedPlan) (number : ℕ) (said : WriteReply) (why : ScheduledWhy) → Asks old request (asked.Plan plan)
      → reply ≡ Plan (Ended number (called.Write said)) → why_scheduled said.written.inverse ≡ Some why → left_open (plan_at old.core.plans number) ≡ Some why
