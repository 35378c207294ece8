use Rattle.std.proofs.Common.{◌∙◌, ap}
use Rattle.tao_keeper.specs.Table.{Tables}
use Rattle.keepers.proofs.steady.SteadyKeeper.make.Goals as goal

pub returns : goal.returns
returns c = λ at. ap (λ (tables : Tables). tables at) c.mend.ensures.tables ∙ c.make-keeper.ensures.empty at
