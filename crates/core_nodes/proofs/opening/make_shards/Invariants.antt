use Rattle.graph_model.specs.Told.{WhereTold}
use Rattle.tao_keeper.specs.KeeperState.{IsLater, KeepsTables}
use Rattle.core_nodes.specs.Opening.{AgreeUpTo, AreMade}
use Rattle.core_nodes.proofs.opening.make_shards.Given as goal

abbrev pub invariant-loop-shard : goal.invariant-loop-shard
invariant-loop-shard g l =
    let keepers = g.K.Keeper.state in
    record {
      made : AreMade g.K.Keeper.TELLS l.config (g.K.Keeper.state l.keepers).told l.shard l.stores.items;
      agree : WhereTold g.K.Keeper.TELLS (AgreeUpTo l.config (g.K.Keeper.state l.fn.keepers).told l.shard);
      stays : KeepsTables g.K.Keeper.TELLS (keepers l.fn.keepers) (keepers l.keepers);
      later : IsLater (keepers l.fn.keepers) (keepers l.keepers);
    }
