use Rattle.std.proofs.Common.{IfOk, subst}
use Rattle.request_check.specs.Requests.{IsPlaced}
use Rattle.request_check.proofs.PlacingRequests.{placed}
use Rattle.request_check.proofs.request.check.Goals as goal

pub returns-clause-placed : goal.returns-clause-placed
returns-clause-placed c = subst (λ r. IfOk r (IsPlaced c.args.config.now)) c.in_ok-checked.ensures (placed c.args.config.now c.args.request.now)
