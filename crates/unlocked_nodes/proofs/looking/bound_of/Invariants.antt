use Rattle.std.proofs.Common.{ℕ, ◌<◌, ◌≤◌}
use Rattle.core_model.specs.Stores.{region_store, store_length}
use Rattle.graph_model.specs.Told.{WhereTold}
use Rattle.tao_keeper.specs.KeeperState.{IsLater, KeepsTables}
use Rattle.unlocked_nodes.proofs.looking.bound_of.Given as goal

-- the greatest cut and the least length so far
abbrev pub invariant-loop-region : goal.invariant-loop-region
invariant-loop-region g l = record {
  cuts : WhereTold g.K.Keeper.TELLS ((region : ℕ) → region < l.region
      → ((g.K.Keeper.state l.fn.keepers).told (region_store region l.shard)).cut ≤ l.greatest);
  come : WhereTold g.K.Keeper.TELLS ((region : ℕ) → region < l.region → l.least ≤ store_length (g.K.Keeper.state l.fn.keepers).told region l.shard);
  stays : KeepsTables g.K.Keeper.TELLS (g.K.Keeper.state l.fn.keepers) (g.K.Keeper.state l.keepers);
  later : IsLater (g.K.Keeper.state l.fn.keepers) (g.K.Keeper.state l.keepers);
}
