-- What each line keeps of refusals, and of what was acknowledged.
use Rattle.std.specs.Prelude.{Bool}
use Rattle.headline_kept.specs.Causes.{RefusesWithCause}
use Rattle.headline_kept.specs.Headline.{IsAnswered}
use Rattle.headline_kept.specs.Histories.{LeavesHistories}
use Rattle.headline_kept.specs.Standing.{KeepsAcknowledged}
use Rattle.replies.specs.declared.reply.Reply.{Reply}
use Rattle.requests.specs.declared.request.Request.{Request}
use Rattle.tao_core.specs.Core.{Moment}

-- each line leaves the histories, where it is refused, and each refusal has its cause
pub record LinesRefuseRightly : Type 0 where
  pub histories : (tells : Bool) (old new : Moment) (request : Request) (reply : Reply) → IsAnswered tells old request reply new
      → LeavesHistories tells old request reply new
  pub causes : (tells : Bool) (old new : Moment) (request : Request) (reply : Reply) → IsAnswered tells old request reply new
      → RefusesWithCause tells old request reply new

-- what was acknowledged stands
pub record WritesStand : Type 0 where
  pub stands : (tells : Bool) (old new : Moment) (request : Request) (reply : Reply) → IsAnswered tells old request reply new
      → KeepsAcknowledged tells old request reply new
