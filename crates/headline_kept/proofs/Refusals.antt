-- Each refusal has its cause, and leaves the histories as they were, but where it says otherwise.
use Rattle.std.proofs.Common.{◌≡◌, ◌∙◌, ℕ, Bool, false, Result, Ok, Err, refl, sym, ap, subst, inl, inr}
use Rattle.replies.specs.declared.refusals.Refusal.{Refusal}
use Rattle.replies.specs.declared.refusals.Refusal.TheVariants.{Memory}
use Rattle.replies.specs.declared.reply.Reply.{Reply}
use Rattle.replies.specs.declared.reply.Reply.TheVariants.{Refused}
use Rattle.request_check.specs.declared.checked.Checked.{Checked}
use Rattle.request_check.specs.declared.checked.Checked.TheVariants as asked
use Rattle.requests.specs.declared.request.Request.{Request}
use Rattle.tao_core.specs.Asked.{asked_of}
use Rattle.tao_core.specs.Core.{IsCoreOf, Moment}
use Rattle.tao_core.specs.Replies.{AnswersAsked, AnswersRequest}
use Rattle.tao_keeper.specs.KeeperState.{KeepsTables}
use Rattle.headline_kept.specs.Causes.{CanBeServed, HasCause}
use Rattle.headline_kept.specs.Headline.{IsAnswered}
use Rattle.headline_kept.specs.Histories.{may_have_written}
use Rattle.headline_kept.specs.Refusing.{LinesRefuseRightly}
use Rattle.headline_kept.specs.Standing.{Asks}
use Rattle.headline_kept.proofs.LineCauses.{RefusesAs, cache_line, health_line, link_line, store_line}
use Rattle.headline_kept.proofs.NotAsked.{asked_kind, not_asked}
use Rattle.headline_kept.proofs.PlanCauses.{call_line, plan_line}

-- the refusal has its cause, and where nothing may have been written no table changed
record IsRefused (tells : Bool) (old : Moment) (request : Request) (refusal : Refusal) (new : Moment) : Type 0 where
  cause : HasCause tells old request refusal new
  same : may_have_written request refusal ≡ false → KeepsTables tells old.keepers new.keepers

module _ (tells : Bool) (old : Moment) (request : Request) (new : Moment) (core : IsCoreOf tells old.keepers.told old.core) where
  open_line : (session region tier : ℕ) (refusal : Refusal) → AnswersAsked tells old (Ok (asked.Open session region tier)) (Refused refusal) new
      → RefusesAs tells old request (asked.Open session region tier) refusal new
  open_line session region tier (Memory position) h = record {
    cause = subst (λ n. HasCause tells old request (Memory n) new) (sym h.0.0) tt;
    same = λ small told at. ap (λ (m : Moment). m.keepers.told at) h.1;
  }
  open_line session region tier refusal h = absurd h.0

  asked_line : (what : Checked) (refusal : Refusal) → Asks old request what → AnswersAsked tells old (Ok what) (Refused refusal) new
      → RefusesAs tells old request what refusal new
  asked_line (asked.Open session region tier) refusal asks h = open_line session region tier refusal h
  asked_line (asked.Call made) refusal asks h =
      let says = call_line tells old request new core made refusal asks h in
      record { cause = says.cause; same = says.same }
  asked_line (asked.Plan made) refusal asks h =
      let says = plan_line tells old request new core made refusal asks h in
      record { cause = says.cause; same = λ small. says.same }
  asked_line (asked.Cache made) refusal asks h = cache_line tells old request new made refusal asks h
  asked_line (asked.Store made) refusal asks h = store_line tells old request new made refusal asks h
  asked_line (asked.Link made) refusal asks h = link_line tells old request new made refusal asks h
  asked_line (asked.Health made) refusal asks h = health_line tells old request new made refusal asks h

  by_asked : (found : Result Checked Refusal) (refusal : Refusal) → asked_of old.core.settings old.core.sessions old.core.plans request ≡ found
      → AnswersAsked tells old found (Refused refusal) new → IsRefused tells old request refusal new
  by_asked (Ok what) refusal asks h =
      let says = asked_line what refusal asks h in
      record { cause = says.cause; same = λ small. says.same (sym (asked_kind old request what asks refusal) ∙ small) }
  by_asked (Err refused) refusal asks h =
      let said = h.0 in
      let same : refused ≡ refusal = cc in
      record {
        cause = not_asked tells old request refusal new (asks ∙ ap Err same);
        same = λ small told at. ap (λ (m : Moment). m.keepers.told at) h.1;
      }

  is_refused : (refusal : Refusal) → AnswersRequest tells old request (Refused refusal) new → IsRefused tells old request refusal new
  is_refused refusal (inl wants) =
      let said = wants.reply_is in
      let is : Memory 0 ≡ refusal = cc in
      record {
        cause = subst (λ r. HasCause tells old request r new) is tt;
        same = λ small told at. ap (λ (m : Moment). m.keepers.told at) wants.same;
      }
  is_refused refusal (inr answers) = by_asked (asked_of old.core.settings old.core.sessions old.core.plans request) refusal refl answers

-- each line
refused_line : (tells : Bool) (old new : Moment) (request : Request) (reply : Reply) → IsAnswered tells old request reply new → (refusal : Refusal)
    → reply ≡ Refused refusal → IsRefused tells old request refusal new
refused_line tells old new request reply is refusal said =
    is_refused tells old request new is.before refusal (subst (λ r. AnswersRequest tells old request r new) said is.answers)

-- what can be served is refused as out of memory alone
want_alone : (refusal : Refusal) (tells : Bool) (old : Moment) (request : Request) (new : Moment) → CanBeServed tells old request new
    → HasCause tells old request refusal new → (position : ℕ) × (refusal ≡ Memory position)
want_alone (Memory position) tells old request new can cause = (position, refl)
want_alone refusal tells old request new can cause = absurd (can refusal cause)

pub lines_refuse_rightly : LinesRefuseRightly
lines_refuse_rightly = record {
  histories = λ tells old new request reply is. record { same = λ refusal said. (refused_line tells old new request reply is refusal said).same };
  causes = λ tells old new request reply is. record {
    cause = λ refusal said. (refused_line tells old new request reply is refusal said).cause;
    complete = λ can refusal said. want_alone refusal tells old request new can (refused_line tells old new request reply is refusal said).cause;
  };
}
