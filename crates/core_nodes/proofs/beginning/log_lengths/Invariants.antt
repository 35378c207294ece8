use Rattle.std.proofs.Common.{◌≡◌}
use Rattle.tao_keeper.specs.KeeperState.{IsLater, KeepsTables}
use Rattle.core_nodes.specs.Beginning.{AreFirstLengths}
use Rattle.core_nodes.proofs.beginning.log_lengths.Given as goal

-- the lengths so far are those of the first stores' logs
abbrev pub invariant-loop-place : goal.invariant-loop-place
invariant-loop-place g l =
    let keepers = g.K.Keeper.state in
    record {
      lengths : AreFirstLengths g.K.Keeper.TELLS (g.K.Keeper.state l.fn.keepers).told l.fn.stores l.place l.lengths.items;
      same : l.stores ≡ l.fn.stores;
      stays : KeepsTables g.K.Keeper.TELLS (keepers l.fn.keepers) (keepers l.keepers);
      later : IsLater (keepers l.fn.keepers) (keepers l.keepers);
    }
