use Rattle.std.proofs.Common.{ℕ, ◌<◌}
use Rattle.std.specs.Prelude.{All}
use Rattle.core_model.specs.Stores.{master_log}
use Rattle.graph_model.specs.Told.{WhereTold}
use Rattle.tao_keeper.specs.KeeperState.{IsLater, KeepsTables}
use Rattle.unlocked_nodes.specs.Looking.{AreNumbersWithin}
use Rattle.unlocked_nodes.proofs.numbers.numbers_fit.Given as goal

-- the logs so far fit
abbrev pub invariant-loop-shard : goal.invariant-loop-shard
invariant-loop-shard g l = record {
  fits : WhereTold g.K.Keeper.TELLS ((shard : ℕ) → shard < l.shard
      → All (AreNumbersWithin l.limit) (master_log l.around.config.now (g.K.Keeper.state l.fn.keepers).told shard));
  stays : KeepsTables g.K.Keeper.TELLS (g.K.Keeper.state l.fn.keepers) (g.K.Keeper.state l.keepers);
  later : IsLater (g.K.Keeper.state l.fn.keepers) (g.K.Keeper.state l.keepers);
}
