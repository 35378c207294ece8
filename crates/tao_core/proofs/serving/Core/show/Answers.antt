use Rattle.std.proofs.Common.{subst, sym}
use Rattle.tao_core.specs.Core.{IsConsistentCore, core_state, moment}
use Rattle.tao_core.specs.Deliveries.{IsMarkSaid, IsShown}
use Rattle.tao_core.proofs.Delivering.{shows}
use Rattle.tao_core.proofs.serving.Core.show.Goals as goal

pub returns-in-Ok : goal.returns-in-Ok
returns-in-Ok c tells keepers link of =
    let at = subst (λ shard. IsMarkSaid (core_state c.self.inside) c.args.node shard c.in-Some.mark) c.shard.ensures
    (subst (λ x. IsMarkSaid x c.args.node c.shard.result c.in-Some.mark) (sym c.self.view_is) c.in-Some.ensures) in
    subst (λ x. IsShown tells c.args.node c.args.key c.in-Some.mark c.in-Ok.item (moment x keepers link)) c.self.view_is
    (shows tells (core_state c.self.inside) keepers link c.args.node c.args.key c.in-Some.mark _ c.in-Ok.item
    (subst (IsConsistentCore tells keepers.told) (sym c.self.view_is) of) c.item.ensures at c.in-Ok.ensures)
