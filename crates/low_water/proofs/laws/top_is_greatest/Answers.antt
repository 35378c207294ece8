use Rattle.low_water.proofs.AddedMarks.{top_is}
use Rattle.low_water.proofs.laws.top_is_greatest.Goals as goal

pub returns : goal.returns
returns c = top_is
