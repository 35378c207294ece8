use Rattle.keeper_sql.specs.Untold.{of_nothing_told}
use Rattle.tao.proofs.run.in_file.Goals as goal

pub over-code-requires : goal.over-code-requires
over-code-requires c = of_nothing_told
