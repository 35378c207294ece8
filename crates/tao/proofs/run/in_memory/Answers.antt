use Rattle.tao_top.proofs.Keeping.{empty_kept}
use Rattle.tao.proofs.run.in_memory.Goals as goal

pub over-requires : goal.over-requires
over-requires c = λ told line. empty_kept _ c.make-keepers.ensures.empty line
