use Rattle.std.proofs.Common.{ap}
use Rattle.low_water.proofs.Rings.{ahead_of_clear}
use Rattle.low_water.specs.Marks.{marks}
use Rattle.low_water.proofs.LowWater.forget_ahead.Goals as goal

pub returns : goal.returns
returns c = rw (← c.self.view_is) (ap (λ ahead. marks c.self.inside.low ahead) (ahead_of_clear c.wipe.new.self c.self.inside.low c.wipe.ensures))
