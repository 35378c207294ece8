-- What a run answers is as promised, and what the promise says of a line that is refused.
use Rattle.std.specs.Prelude.{ℕ, ◌≡◌, List, None, Ok, true}
use Rattle.core_nodes.specs.Outside.{Outside}
use Rattle.core_plans.specs.Held.{Plans}
use Rattle.core_sessions.specs.Sessions.{Session}
use Rattle.replies.specs.declared.refusals.Refusal.TheVariants.{Memory}
use Rattle.replies.specs.declared.reply.Reply.{Reply}
use Rattle.replies.specs.declared.reply.Reply.TheVariants.{Refused}
use Rattle.request_check.specs.declared.checked.Checked.{Checked}
use Rattle.requests.specs.declared.request.Request.{Request}
use Rattle.tao_core.specs.Asked.{asked_of}
use Rattle.tao_top.specs.Promised.{AreAsPromised, AreInUse, InUse, LineAsks}
use Rattle.tao_top.specs.Served.{start}
use Rattle.tao_top.specs.Step.{Given, ReplyLine, Runs, State, asked_in}
use Rattle.topology.specs.Config.{Settings}

-- whatever is given from the start on, with whatever replies: by this a run's clause `promise` is of the very replies that its other clauses speak of
pub record RunsArePromised : Type 0 where
  pub are : (old : Outside) (new : State) (given : List Given) (replies : List ReplyLine) → Runs true (start old) given replies new
      → AreAsPromised old.keepers.told given replies new.outside.keepers.told

-- by the configuration, the sessions that are open, and the plans that are held, the given asks this, which can be done
pub record CanBeDoneNow (s : Settings) (used : InUse) (given : Given) (asked : Checked) : Type 0 where
  pub request : Request
  pub given_is : asked_in given ≡ Ok request
  pub can : (sessions : List Session) (plans : Plans) → AreInUse used sessions plans → asked_of s sessions plans request ≡ Ok asked

-- before anything is done, such a given is refused as out of memory alone, and that at no position
pub record RefusesRightly : Type 0 where
  pub memory : (s : Settings) (used : InUse) (given : Given) (asked : Checked) (reply : Reply) → CanBeDoneNow s used given asked
      → LineAsks s used given None reply → reply ≡ Refused (Memory 0)
