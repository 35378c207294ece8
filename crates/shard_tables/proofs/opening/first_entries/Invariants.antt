use Rattle.std.proofs.Common.{◌≡◌, ◌≤◌, length, take}
use Rattle.graph_model.specs.Told.{WhereTold}
use Rattle.tao_keeper.specs.KeeperState.{KeepsTables}
use Rattle.shard_tables.proofs.opening.first_entries.Given as goal

abbrev pub invariant-loop-place : goal.invariant-loop-place
invariant-loop-place g l = record {
  entries : WhereTold g.M.Keeper.TELLS (l.entries.items ≡ take l.place ((g.M.Keeper.state l.fn.keeper).told l.at).log);
  few : length l.entries.items ≤ l.place;
  stays : KeepsTables g.M.Keeper.TELLS (g.M.Keeper.state l.fn.keeper) (g.M.Keeper.state l.keeper);
  calls : (g.M.Keeper.state l.fn.keeper).calls ≤ (g.M.Keeper.state l.keeper).calls;
  faults : (g.M.Keeper.state l.fn.keeper).faults ≤ (g.M.Keeper.state l.keeper).faults;
}
