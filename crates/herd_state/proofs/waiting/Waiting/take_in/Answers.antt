use Rattle.std.proofs.Common.{◌≡◌, List, ◌∷◌, [], ◌++◌, subst}
use Rattle.futures.specs.Slot.{IsLeftIn}
use Rattle.futures.specs.declared.task.waker.Waker.{Waker}
use Rattle.herd_state.proofs.waiting.Waiting.take_in.Goals as goal

pub returns-in_ok-push-in-Some-clause-taken : goal.returns-in_ok-push-in-Some-clause-taken
returns-in_ok-push-in-Some-clause-taken c = (
  c.in-Some.waker,
  subst (IsLeftIn c.args.cx.now c.register.new.self) c.in-Some.is c.register.ensures.left,
  subst (λ (w : List Waker). c.push.new.self.items ≡ w ++ c.in-Some.waker ∷ []) c.self.view_is c.in_ok-push-in-Some.ensures.items,
)
