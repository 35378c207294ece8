use Rattle.graph_model.specs.Told.{WhereTold}
use Rattle.tao_top.specs.Kept.{MayBeginAny}
use Rattle.scripts.proofs.play.play_runs.Given as goal

-- another run may go over what the keeper holds
abbrev pub invariant-loop-run : goal.invariant-loop-run
invariant-loop-run g l = WhereTold g.K.Keeper.TELLS (MayBeginAny (g.K.Keeper.state l.keeper).told)
