-- A call of which no plan is begun changes nothing; and one that is held is begun at the same core.
use Rattle.std.proofs.Common.{◌≡◌, ℕ, Bool, true, List, ap, sym, ◌∙◌, subst, inl}
use Rattle.core_plans.specs.Held.{AddsPlan, Plans}
use Rattle.core_plans.specs.declared.held.HeldPlan.{HeldPlan}
use Rattle.core_sessions.specs.Sessions.{Session, is_open}
use Rattle.replies.specs.declared.reply.Reply.{Reply}
use Rattle.request_check.specs.declared.checked.CheckedCall.{CheckedCall}
use Rattle.request_check.specs.declared.checked.CheckedCall.TheVariants as call
use Rattle.tao_keeper.specs.KeeperState.{KeeperState}
use Rattle.tao_link.specs.Shown.{LinkShown}
use Rattle.topology.specs.Config.{Settings}
use Rattle.words.specs.declared.PlanWord.TheVariants as word
use Rattle.tao_core.specs.Asked.{CallCanBeDone}
use Rattle.tao_core.specs.Core.{CoreState, IsCoreOf, Moment, StaysUsable, moment}
use Rattle.tao_core.specs.HeldCalls.{AnswersHold, IsBegun, IsNotBegun, RefusesCall, StepsAt, call_session}
use Rattle.tao_core.proofs.HeldOn.{core_unchanged}

-- a call that can be done is of an open session
pub call_open : (s : Settings) (sessions : List Session) (asked : CheckedCall) → CallCanBeDone s sessions asked → is_open sessions (call_session asked) ≡ true
call_open s sessions (call.Write write) can = can.1
call_open s sessions (call.Read read) can = can.1

-- a call of which no plan was begun leaves a core whose parts were lent, and stayed as they were
module _ (core left now : CoreState) (own : core ≡ now) (same : left ≡ core) (tells : Bool) (keepers : KeeperState) (link : LinkShown) where
  pub not_begun : (asked : CheckedCall) (reply : Reply) → IsNotBegun core.states core.sessions asked reply
      → RefusesCall asked (moment now keepers link) reply (moment left keepers link)
  not_begun asked reply refused = record {
    refused = subst (λ (x : CoreState). IsNotBegun x.states x.sessions asked reply) own refused;
    same = ap (λ x. moment x keepers link) (same ∙ own);
  }

  pub stays_usable : IsCoreOf tells keepers.told now → StaysUsable tells keepers keepers now left
  stays_usable of = subst (StaysUsable tells keepers keepers now) (sym (same ∙ own)) (core_unchanged tells keepers now of)

-- its plan was held
module _ (core now : CoreState) (own : core ≡ now) (sessions : List Session) (same : sessions ≡ core.sessions) (asked : CheckedCall) (tells : Bool)
    (keepers : KeeperState) (link : LinkShown) where
  pub held_goes : (number : ℕ) (plan : HeldPlan) (added : Plans) (reply : Reply) (new : Moment) → IsBegun core.settings core.states core.sessions asked plan
      → AddsPlan number plan core.plans added
      → StepsAt tells word.Hold number (moment (record core { plans = added; sessions = sessions }) keepers link) reply new
      → AnswersHold tells number asked (moment now keepers link) reply new
  held_goes number plan added reply new begun adds steps =
      subst (λ x. AnswersHold tells number asked (moment x keepers link) reply new) own (inl (record {
        plan = plan;
        added = added;
        begun = begun;
        adds = adds;
        steps = subst (λ xs. StepsAt tells word.Hold number (moment (record core { plans = added; sessions = xs }) keepers link) reply new) same steps;
      }))
