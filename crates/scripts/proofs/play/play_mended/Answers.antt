use Rattle.std.proofs.Common.{◌≡◌, true, subst, sym}
use Rattle.graph_model.specs.Told.{WhereTold}
use Rattle.tao_keeper.specs.Table.{Tables}
use Rattle.tao_top.specs.Kept.{MayBeginAny}
use Rattle.scripts.proofs.play.play_mended.Goals as goal

-- a keeper that is mended has the tables that it had
pub play_runs-requires : goal.play_runs-requires
play_runs-requires c = subst (λ (tables : Tables). WhereTold true (MayBeginAny tables)) (sym c.mend.ensures.tables) c.play_run.ensures
