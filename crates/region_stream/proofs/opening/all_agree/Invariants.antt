use Rattle.std.proofs.Common.{◌≤◌}
use Rattle.std.specs.List.{AllWithin}
use Rattle.graph_model.specs.Told.{WhereTold}
use Rattle.region_stream.specs.Opening.{BeginsUnder}
use Rattle.tao_keeper.specs.KeeperState.{KeepsTables}
use Rattle.region_stream.proofs.opening.all_agree.Given as goal

abbrev pub invariant-loop-name : goal.invariant-loop-name
invariant-loop-name g l = record {
  agree : WhereTold g.M.Keeper.TELLS (AllWithin (BeginsUnder (g.M.Keeper.state l.fn.keeper).told l.log) l.names 0 l.name-index);
  stays : KeepsTables g.M.Keeper.TELLS (g.M.Keeper.state l.fn.keeper) (g.M.Keeper.state l.keeper);
  calls : (g.M.Keeper.state l.fn.keeper).calls ≤ (g.M.Keeper.state l.keeper).calls;
  faults : (g.M.Keeper.state l.fn.keeper).faults ≤ (g.M.Keeper.state l.keeper).faults;
}
