use Rattle.std.proofs.Common.{◌≤◌}
use Rattle.graph_model.specs.Told.{WhereTold}
use Rattle.region_stream.specs.Agreeing.{AgreeBelow}
use Rattle.tao_keeper.specs.KeeperState.{KeepsTables}
use Rattle.region_stream.proofs.agreeing.first_difference.Given as goal

abbrev pub invariant-loop-place : goal.invariant-loop-place
invariant-loop-place g l = record {
  agree : WhereTold g.M.Keeper.TELLS (AgreeBelow ((g.M.Keeper.state l.fn.keeper).told l.at).log l.master l.place);
  stays : KeepsTables g.M.Keeper.TELLS (g.M.Keeper.state l.fn.keeper) (g.M.Keeper.state l.keeper);
  calls : (g.M.Keeper.state l.fn.keeper).calls ≤ (g.M.Keeper.state l.keeper).calls;
  faults : (g.M.Keeper.state l.fn.keeper).faults ≤ (g.M.Keeper.state l.keeper).faults;
}
