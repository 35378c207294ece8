-- Every request keeps the promise: what it asks is of one of the families, or it was refused before anything was done.
use Rattle.std.proofs.Common.{◌≡◌, true, Some, None, Result, Ok, Err, IfOk, refl, sym, ap, subst, inl, inr}
use Rattle.outcomes.proofs.InTurn.{then_ok}
use Rattle.plain_promise.specs.Promise.{Plain}
use Rattle.promise_kept.proofs.CacheLines.{cache_line, link_line}
use Rattle.promise_kept.proofs.HealthLines.{health_line}
use Rattle.promise_kept.proofs.Keeping.{calls_keep_promise}
use Rattle.promise_kept.proofs.StoreLines.{store_line}
use Rattle.promise_kept.specs.Lines.{CallsKeepPromise, GoesOnUsable, IsLine, StepsPlainly}
use Rattle.promise_kept.specs.Requests.{IsAskedAt, KeepsItsLine, RequestsKeepPromise}
use Rattle.promise_kept.specs.Seen.{IsPlainOf}
use Rattle.replies.specs.declared.refusals.NameRefused.{NameRefused}
use Rattle.replies.specs.declared.refusals.Refusal.{Refusal}
use Rattle.replies.specs.declared.refusals.Refusal.TheVariants.{Memory}
use Rattle.replies.specs.declared.reply.Reply.{Reply}
use Rattle.replies.specs.declared.reply.Reply.TheVariants.{Refused}
use Rattle.request_check.proofs.PlacingRequests.{placed}
use Rattle.request_check.specs.Refusal.{for_name, replied}
use Rattle.request_check.specs.Requests.{IsPlaced, checked_of}
use Rattle.request_check.specs.declared.checked.Checked.{Checked}
use Rattle.request_check.specs.declared.checked.Checked.TheVariants as asks
use Rattle.requests.specs.declared.request.Request.{Request}
use Rattle.tao_core.proofs.AskedLemmas.{checked_can}
use Rattle.tao_core.specs.Asked.{CanBeDone, admitted, asked_of}
use Rattle.tao_core.specs.Core.{Moment}
use Rattle.tao_core.specs.Replies.{AnswersAsked, AnswersRequest}

-- ---- what is asked can be done

named_as : (found : Result Checked NameRefused) (c : Checked) → for_name found ≡ Ok c → found ≡ Ok c
named_as (Ok x) c is = cc
named_as (Err refused) c is = absurd (cc)

-- what a request was checked to can be done
pub can_be_done : (m : Moment) (request : Request) (asked : Checked)
    → asked_of m.core.settings m.core.sessions m.core.plans request ≡ Ok asked → CanBeDone m.core.settings m.core.sessions m.core.plans asked
can_be_done m request asked is =
    let s = m.core.settings in
    let sessions = m.core.sessions in
    let plans = m.core.plans in
    let both = then_ok (admitted sessions plans request) (λ there. for_name (checked_of s request)) asked is in
    let found = named_as (checked_of s request) asked both.2 in
    checked_can s sessions plans request (Ok asked) both.1 (ap (λ (r : Result Checked Refusal). replied r) both.2)
    (subst (λ r. IfOk r (IsPlaced s)) found (placed s request))

-- ---- a line that was refused before anything was done

refused_before : (old new : Moment) (plain : Plain) (request : Request) (reply : Reply) (refusal : Refusal) → IsPlainOf old plain → reply ≡ Refused refusal
    → IsAskedAt old request None reply → new ≡ old → KeepsItsLine request old plain reply new
refused_before old new plain request reply refusal is said why same = record {
  asked = None;
  is_asked = why;
  asks = record { refusal = refusal; reply_is = said; same = same };
  steps = record {
    after = plain;
    says = record { refusal = refusal; reply_is = said; same = refl };
    seen = subst (λ (m : Moment). IsPlainOf m plain) (sym same) is;
  };
}

-- ---- all words

module _ (calls : CallsKeepPromise) where
  each_line : (asked : Checked) (old new : Moment) (plain : Plain) (reply : Reply) → IsPlainOf old plain → IsLine asked old reply new
      → StepsPlainly (Some asked) old plain reply new
  each_line (asks.Open session region tier) = calls.opens session region tier
  each_line (asks.Call asked) = calls.calls asked
  each_line (asks.Plan asked) = calls.plans asked
  each_line (asks.Cache asked) = cache_line asked
  each_line (asks.Store asked) = store_line asked
  each_line (asks.Link asked) = link_line asked
  each_line (asks.Health asked) = health_line asked

  by_asked : (old new : Moment) (plain : Plain) (request : Request) (reply : Reply) (found : Result Checked Refusal) → IsPlainOf old plain
      → GoesOnUsable old new → asked_of old.core.settings old.core.sessions old.core.plans request ≡ found → AnswersAsked true old found reply new
      → KeepsItsLine request old plain reply new
  by_asked old new plain request reply (Err refused) is on found answers =
      refused_before old new plain request reply refused is answers.0 (inr (refused, answers.0, found)) answers.1
  by_asked old new plain request reply (Ok asked) is on found answers =
      let line : IsLine asked old reply new = record { can = can_be_done old request asked found; on = on; answers = answers } in
      record { asked = Some asked; is_asked = found; asks = line; steps = each_line asked old new plain reply is line }

  pub requests_from : RequestsKeepPromise
  requests_from = record { keeps = by_request }
    where
      by_request : (old new : Moment) (plain : Plain) (request : Request) (reply : Reply) → IsPlainOf old plain → GoesOnUsable old new
          → AnswersRequest true old request reply new → KeepsItsLine request old plain reply new
      by_request old new plain request reply is on (inl wants) =
          refused_before old new plain request reply (Memory 0) is wants.reply_is (inl wants.reply_is) wants.same
      by_request old new plain request reply is on (inr answers) =
          by_asked old new plain request reply (asked_of old.core.settings old.core.sessions old.core.plans request) is on refl answers

pub requests_keep : RequestsKeepPromise
requests_keep = requests_from calls_keep_promise
