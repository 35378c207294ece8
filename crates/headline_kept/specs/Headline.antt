-- What each line keeps, whatever it asks.
use Rattle.std.specs.Prelude.{Bool}
use Rattle.headline_kept.specs.Faults.{FailsRightly}
use Rattle.headline_kept.specs.Standing.{KeepsAcknowledged}
use Rattle.headline_kept.specs.Touches.{KeepsItems}
use Rattle.replies.specs.declared.reply.Reply.{Reply}
use Rattle.requests.specs.declared.request.Request.{Request}
use Rattle.tao_core.specs.Core.{IsCoreOf, Moment, StaysUsable}
use Rattle.tao_core.specs.Replies.{AnswersRequest}

-- a request of a core that may be used, and the reply to it
pub record IsAnswered (tells : Bool) (old : Moment) (request : Request) (reply : Reply) (new : Moment) : Type 0 where
  pub before : IsCoreOf tells old.keepers.told old.core
  pub after : StaysUsable tells old.keepers new.keepers old.core new.core
  pub answers : AnswersRequest tells old request reply new

-- what a line keeps: items stay as they were, unless it touches them; where something fails, it fails rightly; and what was acknowledged stands
pub record KeepsHeadline (tells : Bool) (old : Moment) (request : Request) (reply : Reply) (new : Moment) : Type 0 where
  pub items : KeepsItems tells old request new
  pub fails : FailsRightly tells old request reply new
  pub stands : KeepsAcknowledged tells old request reply new

-- each line keeps items
pub record LinesKeepItems : Type 0 where
  pub items : (tells : Bool) (old new : Moment) (request : Request) (reply : Reply) → IsAnswered tells old request reply new
      → KeepsItems tells old request new

-- each line keeps all of it
pub record LinesKeepHeadline : Type 0 where
  pub kept : (tells : Bool) (old new : Moment) (request : Request) (reply : Reply) → IsAnswered tells old request reply new
      → KeepsHeadline tells old request reply new

-- each line fails rightly, where something fails
pub record LinesFailRightly : Type 0 where
  pub fails : (tells : Bool) (old new : Moment) (request : Request) (reply : Reply) → IsAnswered tells old request reply new
      → FailsRightly tells old request reply new
