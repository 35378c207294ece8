use Rattle.std.proofs.Common.{ap}
use Rattle.tao_core.specs.Core.{CoreState}
use Rattle.tao_core.proofs.HeldOn.{core_goes_on}
use Rattle.tao_core.proofs.StayOpen.{same_open}
use Rattle.tao_core.proofs.serving.Core.settle.Goals as goal

pub returns-clause-usable : goal.returns-clause-usable
returns-clause-usable g c =
    let before = c.args.self.now in
    let done = c.settle_all in
    core_goes_on g.K.Keeper.TELLS (g.K.Keeper.state c.args.keepers.now) (g.K.Keeper.state done.new.keepers) before done.new.self c.requires.keepers
    done.ensures.leaves
    (ap (λ (x : CoreState). x.settings) done.ensures.rest) (ap (λ (x : CoreState). x.plans) done.ensures.rest)
    (same_open before.sessions done.new.self.sessions (ap (λ (x : CoreState). x.sessions) done.ensures.rest))
