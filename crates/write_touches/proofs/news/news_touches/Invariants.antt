use Rattle.std.proofs.Common.{◌≡◌, ◌≤◌, take}
use Rattle.std.specs.Prelude.{filter_map}
use Rattle.tao_keeper.specs.Given.{HaveSmallStamps}
use Rattle.graph_model.specs.Told.{WhereTold}
use Rattle.tao_keeper.specs.KeeperState.{KeepsTables}
use Rattle.write_touches.specs.Edges.{news_touch}
use Rattle.write_touches.proofs.news.news_touches.Given as goal

abbrev pub invariant-loop-update : goal.invariant-loop-update
invariant-loop-update g l = record {
  touches : WhereTold g.M.Keeper.TELLS (l.touches.items ≡ filter_map (news_touch ((g.M.Keeper.state l.fn.keeper).told l.at).log)
      (take l.update-index l.updates));
  small : HaveSmallStamps l.touches.items;
  stays : KeepsTables g.M.Keeper.TELLS (g.M.Keeper.state l.fn.keeper) (g.M.Keeper.state l.keeper);
  calls : (g.M.Keeper.state l.fn.keeper).calls ≤ (g.M.Keeper.state l.keeper).calls;
  faults : (g.M.Keeper.state l.fn.keeper).faults ≤ (g.M.Keeper.state l.keeper).faults;
}
