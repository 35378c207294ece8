use Rattle.std.proofs.Common.{ap}
use Rattle.low_water.proofs.Rings.{ahead_of_clear}
use Rattle.low_water.specs.Marks.{marks}
use Rattle.low_water.proofs.LowWater.make.Goals as goal

pub returns : goal.returns
returns c = ap (λ ahead. marks c.args.low ahead) (ahead_of_clear c.in_ok-make.field-0 c.args.low c.in_ok-make.ensures)
