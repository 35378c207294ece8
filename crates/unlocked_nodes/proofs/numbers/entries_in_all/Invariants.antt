use Rattle.std.proofs.Common.{◌+◌, ◌-◌, ◌≤◌, length}
use Rattle.std.specs.List.{sum_by}
use Rattle.core_model.specs.Stores.{master_log, stores_in}
use Rattle.graph_model.specs.Told.{WhereTold}
use Rattle.master_tables.specs.Masters.{each_shard}
use Rattle.tao_keeper.specs.KeeperState.{IsLater, KeepsTables}
use Rattle.write_model.specs.Merges.{entries_ever}
use Rattle.unlocked_nodes.proofs.numbers.entries_in_all.Given as goal

-- those so far, with those that are left, come to all
abbrev pub invariant-loop-shard : goal.invariant-loop-shard
invariant-loop-shard g l = record {
  sum : WhereTold g.K.Keeper.TELLS (
      l.sum + sum_by length (each_shard (master_log l.config (g.K.Keeper.state l.fn.keepers).told) l.shard (l.config.shards - l.shard))
      ≤ entries_ever (stores_in l.config (g.K.Keeper.state l.fn.keepers).told));
  stays : KeepsTables g.K.Keeper.TELLS (g.K.Keeper.state l.fn.keepers) (g.K.Keeper.state l.keepers);
  later : IsLater (g.K.Keeper.state l.fn.keepers) (g.K.Keeper.state l.keepers);
}
