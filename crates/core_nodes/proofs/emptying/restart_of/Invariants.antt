use Rattle.std.proofs.Common.{◌≡◌, take}
use Rattle.tao_keeper.specs.KeeperState.{IsLater, KeepsTables}
use Rattle.core_model.specs.Emptied.{region_tables}
use Rattle.core_model.specs.Pens.{pens_of}
use Rattle.core_nodes.specs.Emptying.{BeginFor}
use Rattle.core_nodes.proofs.emptying.restart_of.Given as goal

abbrev pub invariant-loop-shard : goal.invariant-loop-shard
invariant-loop-shard g l =
    let keepers = g.K.Keeper.state in
    record {
      restart : BeginFor (pens_of l.fn.stores) (region_tables g.K.Keeper.TELLS (keepers l.fn.keepers).told l.fn.region) (take l.shard-index l.shards)
          l.lows.items l.notes.items;
      same : l.stores ≡ l.fn.stores;
      tables : KeepsTables g.K.Keeper.TELLS (keepers l.fn.keepers) (keepers l.keepers);
      later : IsLater (keepers l.fn.keepers) (keepers l.keepers);
    }
