use Rattle.std.proofs.Common.{◌≡◌, ◌-◌, drop, take}
use Rattle.graph_model.specs.Told.{WhereTold}
use Rattle.tao_keeper.specs.KeeperState.{IsLater, KeepsTables}
use Rattle.node_stages.proofs.catching.entries_after.Given as goal

-- the entries so far are the first ones after the position
abbrev pub invariant-loop-place : goal.invariant-loop-place
invariant-loop-place g l =
    let keepers = g.K.Keeper.state in
    record {
      entries : WhereTold g.K.Keeper.TELLS
          (l.entries.items ≡ take (l.place - l.low) (drop l.low ((keepers l.fn.keepers).told l.fn.store.name).log));
      same : l.store ≡ l.fn.store;
      tables : KeepsTables g.K.Keeper.TELLS (keepers l.fn.keepers) (keepers l.keepers);
      later : IsLater (keepers l.fn.keepers) (keepers l.keepers);
    }
