use Rattle.std.proofs.Common.{subst, sym}
use Rattle.request_check.specs.Requests.{IsPlaced}
use Rattle.cluster_talks.proofs.opening.open.Goals as goal

pub returns-in-Ok-clause-on : goal.returns-in-Ok-clause-on
returns-in-Ok-clause-on c = λ m log link same may.
    c.open_placed.ensures.on m log link (subst (λ s. IsPlaced s c.in-Ok.checked) (sym same) c.in-Ok.ensures.placed) may
