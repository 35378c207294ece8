use Rattle.keeper_map.specs.MapKeeper.{told_by}
use Rattle.tao_top.proofs.Keeping.{empty_kept}
use Rattle.scripts.proofs.play.new_keeper.Goals as goal

pub returns : goal.returns
returns c = empty_kept (told_by c.make.result) c.make.ensures.empty
