use Rattle.keeper_sql.specs.Untold.{of_nothing_told}
use Rattle.scripts.proofs.play.play_over_given.Goals as goal

pub play_runs-requires : goal.play_runs-requires
play_runs-requires c = of_nothing_told
