-- What each line keeps where something fails.
use Rattle.std.specs.Prelude.{Bool}
use Rattle.headline_kept.specs.Causes.{RefusesWithCause}
use Rattle.headline_kept.specs.Histories.{LeavesHistories}
use Rattle.headline_kept.specs.Machine.{StepsAsSaid}
use Rattle.headline_kept.specs.Scheduled.{SchedulesWithCause}
use Rattle.replies.specs.declared.reply.Reply.{Reply}
use Rattle.requests.specs.declared.request.Request.{Request}
use Rattle.tao_core.specs.Core.{Moment}

-- a refusal leaves each history as it was, but for a write that is refused with the position of its entry, and for a settle or a repair that stopped on its
-- way. Each refusal has its cause, a fault one that was counted in this request. A write whose reply says a position has left its entry there and nothing
-- else but the merge of its job, and one that was sent again adds no second one. Where an inverse is only scheduled, that has its cause too
pub record FailsRightly (tells : Bool) (old : Moment) (request : Request) (reply : Reply) (new : Moment) : Type 0 where
  pub histories : LeavesHistories tells old request reply new
  pub cause : RefusesWithCause tells old request reply new
  pub steps : StepsAsSaid tells old request reply new
  pub scheduled : SchedulesWithCause tells old request reply new
