use Rattle.tao_keeper.specs.KeeperState.{IsLater, KeepsTables}
use Rattle.cluster_opening.proofs.OpenedOver.{AreFirstCuts}
use Rattle.cluster_opening.proofs.opening.cuts_of.Given as goal

-- the cuts so far are those of the first shards, and no table changed
abbrev pub invariant-loop-shard : goal.invariant-loop-shard
invariant-loop-shard g l =
    let keepers = g.K.Keeper.state in
    record {
      cuts : AreFirstCuts g.K.Keeper.TELLS l.config (keepers l.fn.keepers).told l.shard l.cuts.items;
      stays : KeepsTables g.K.Keeper.TELLS (keepers l.fn.keepers) (keepers l.keepers);
      later : IsLater (keepers l.fn.keepers) (keepers l.keepers);
    }
