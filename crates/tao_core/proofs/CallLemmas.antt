-- What the outcome of resolving a request makes of its reply.
use Rattle.std.proofs.Common.{◌≡◌, Bool, List, Result, Ok, Err, refl, sym, subst, inl, inr}
use Rattle.core_plans.specs.Held.{Plans}
use Rattle.outcomes.specs.Results.{Gives}
use Rattle.replies.specs.declared.refusals.Refusal.{Refusal}
use Rattle.replies.specs.declared.reply.Reply.{Reply}
use Rattle.requests.specs.declared.request.Request.{Request}
use Rattle.request_check.specs.Refusal.{replied, reply_unless_memory}
use Rattle.request_check.specs.declared.checked.Checked.{Checked}
use Rattle.request_check.specs.declared.refusal.CheckRefusal.{CheckRefusal}
use Rattle.request_check.specs.declared.refusal.CheckRefusal.TheVariants as check
use Rattle.topology.specs.Config.{Settings}
use Rattle.tao_core.specs.Asked.{asked_of}
use Rattle.request_check.specs.Refusal.{reply_as}
use Rattle.tao_core.specs.Core.{Moment}
use Rattle.tao_core.specs.Replies.{AnswersAsked, AnswersRequest}
use Rattle.core_sessions.specs.Sessions.{Session}

refused_so : (tells : Bool) (now : Moment) (r : Result Checked Refusal) (reply : Reply) → replied r ≡ Err reply → AnswersAsked tells now r reply now
refused_so tells now (Ok c) reply h = absurd (cc)
refused_so tells now (Err refused) reply h = (cc, refl)

replied_ok : (r : Result Checked Refusal) (c : Checked) → replied r ≡ Ok c → r ≡ Ok c
replied_ok (Ok x) c h = cc
replied_ok (Err refused) c h = absurd (cc)

-- the core whose settings, sessions and plans were lent
module _ (now : Moment) (s : Settings) (sessions : List Session) (plans : Plans) (is_s : s ≡ now.core.settings) (is_sessions : sessions ≡ now.core.sessions)
    (is_plans : plans ≡ now.core.plans) where
  lent : (P : Settings → List Session → Plans → Type 0) → P s sessions plans → P now.core.settings now.core.sessions now.core.plans
  lent P p =
      subst (λ x. P now.core.settings now.core.sessions x) is_plans
      (subst (λ x. P now.core.settings x plans) is_sessions (subst (λ x. P x sessions plans) is_s p))

  -- a request that asks nothing, or for which there was no memory, is answered so
  pub answers_unasked : (tells : Bool) (asked : Request) (refusal : CheckRefusal)
      → Gives {A = Checked} reply_unless_memory (Err refusal) (replied (asked_of s sessions plans asked))
      → AnswersRequest tells now asked (reply_as refusal) now
  answers_unasked tells asked (check.Refused reply) h =
      inr (refused_so tells now (asked_of now.core.settings now.core.sessions now.core.plans asked) reply
      (lent (λ x y z. replied (asked_of x y z asked) ≡ Err reply) h))
  answers_unasked tells asked check.OutOfMemory h = inl (record { reply_is = refl; same = refl })

  -- what was asked is answered as it is done
  pub answers_asked : (tells : Bool) (asked : Request) (c : Checked) (reply : Reply) (new : Moment)
      → replied (asked_of s sessions plans asked) ≡ Ok c → AnswersAsked tells now (Ok c) reply new → AnswersRequest tells now asked reply new
  answers_asked tells asked c reply new h answers =
      let is : asked_of now.core.settings now.core.sessions now.core.plans asked ≡ Ok c =
      lent (λ x y z. asked_of x y z asked ≡ Ok c) (replied_ok (asked_of s sessions plans asked) c h) in
      inr (subst (λ r. AnswersAsked tells now r reply new) (sym is) answers)
