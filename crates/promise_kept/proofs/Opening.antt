-- A core that was just opened is a plain state: nobody has learnt of anything or seen any, no call is held, and nothing was settled.
use Rattle.std.proofs.Common.{◌≡◌, List, [], Some, None, refl, sym, subst}
use Rattle.core_plans.specs.Held.{Plans, plan_at}
use Rattle.core_sessions.specs.Sessions.{Session}
use Rattle.promise_kept.proofs.Floors.{floors_begin}
use Rattle.promise_kept.specs.Seen.{AreBegun, FloorsAre, IsPlainOf, IsSettledSince, floors_of, opened_plain}
use Rattle.tao_core.specs.Core.{IsNewCore, Moment}

-- no call is held
none_held : (m : Moment) → m.core.plans ≡ [] → AreBegun m (λ number. None)
none_held m none number plan at =
    let is : None ≡ Some plan = subst (λ (plans : Plans). plan_at plans number ≡ Some plan) none at in
    absurd (cc (is))

-- nothing was settled
none_settled : (m : Moment) → IsSettledSince m None
none_settled m = record { grows = λ logs is. absurd (cc (is)); rests = λ logs is same. absurd (cc (is)) }

pub opened_seen : (m : Moment) → IsNewCore m.core → IsPlainOf m (opened_plain m)
opened_seen m begun = record {
  stores = refl;
  learnt = λ number. subst (λ (sessions : List Session). FloorsAre [] [] (floors_of sessions number)) (sym begun.sessions) floors_begin;
  held = none_held m begun.plans;
  settled = none_settled m;
}
