-- What the keeper that never fails shows.
use Rattle.keeper_map.specs.MapKeeper.{call_plan, told_by}
use Rattle.keepers.specs.declared.steady.SteadyKeeper.{SteadyKeeper}
use Rattle.tao_keeper.specs.KeeperState.{KeeperState}

-- the tables of the keeper in memory and its count of calls; there are no faults
abbrev pub shown_steady : SteadyKeeper → KeeperState
shown_steady keeper = record { told = told_by keeper.keeper; calls = (call_plan keeper.keeper).calls.count; faults = 0 }
