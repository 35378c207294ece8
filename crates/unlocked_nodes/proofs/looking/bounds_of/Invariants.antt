use Rattle.tao_keeper.specs.KeeperState.{IsLater, KeepsTables}
use Rattle.unlocked_nodes.specs.Looking.{AreBounds}
use Rattle.unlocked_nodes.proofs.looking.bounds_of.Given as goal

-- the positions so far bound the cuts of the first shards
abbrev pub invariant-loop-shard : goal.invariant-loop-shard
invariant-loop-shard g l = record {
  bounds : AreBounds g.K.Keeper.TELLS l.config (g.K.Keeper.state l.fn.keepers).told l.shard l.bounds.items;
  stays : KeepsTables g.K.Keeper.TELLS (g.K.Keeper.state l.fn.keepers) (g.K.Keeper.state l.keepers);
  later : IsLater (g.K.Keeper.state l.fn.keepers) (g.K.Keeper.state l.keepers);
}
