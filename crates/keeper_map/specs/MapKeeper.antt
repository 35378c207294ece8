-- What the keeper in memory shows, and what it was told to fail.
use Rattle.keeper_map.specs.declared.map.MapKeeper.{MapKeeper}
use Rattle.keeper_map.specs.Plan.{CallPlan}
use Rattle.keeper_map.specs.Store.{tables_of}
use Rattle.tao_keeper.specs.KeeperState.{KeeperState}
use Rattle.tao_keeper.specs.Table.{Tables}

-- the tables of all stores, as the keeper in memory holds them
abbrev pub told_by : MapKeeper → Tables
told_by keeper = tables_of keeper.stores.tables

-- which calls fail, and what was counted so far
abbrev pub call_plan : MapKeeper → CallPlan
call_plan keeper = keeper.plan

-- the keeper as contracts see it: its tables, how many calls it took, and how many faults it counted
abbrev pub shown_by : MapKeeper → KeeperState
shown_by keeper = record { told = told_by keeper; calls = (call_plan keeper).calls.count; faults = (call_plan keeper).faults }
