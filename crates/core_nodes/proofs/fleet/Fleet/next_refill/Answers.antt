use Rattle.std.proofs.Common.{ap, arith, ◌∙◌}
use Rattle.core_model.specs.Fleet.{Fleet}
use Rattle.core_nodes.proofs.DeliverLemmas.{refill_lent}
use Rattle.core_nodes.proofs.ViewLemmas.{LendsFollowers}
use Rattle.core_nodes.proofs.fleet.Fleet.next_refill.Goals as goal

pub returns : goal.returns
returns c =
    let own = c.deref_mut.ensures.value ∙ ap (λ (f : Fleet). f.followers) c.self.view_is in
    let lends : LendsFollowers c.self.inside c.args.self.now c.deref_mut.result.now c.refill_at.new.followers =
    record { view = c.self.view_is; own = own; long = omega arith } in
    let taken =
    refill_lent c.args.config.now c.args.follower c.refill_at.result c.self.inside c.args.self.now c.deref_mut.result.now c.refill_at.new.followers lends
    c.requires.fleet c.refill_at.ensures in
    record { takes = taken.takes; rest = taken.rest; refill = taken.here; fleet = taken.step.fleet; goes = taken.step.goes }
