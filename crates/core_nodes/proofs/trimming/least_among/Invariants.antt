use Rattle.std.proofs.Common.{◌≡◌}
use Rattle.graph_model.specs.Told.{WhereTold}
use Rattle.tao_keeper.specs.KeeperState.{IsLater, KeepsTables}
use Rattle.core_nodes.specs.Trimming.{least_mark}
use Rattle.core_nodes.proofs.TrimLemmas.{least_left}
use Rattle.core_nodes.proofs.trimming.least_among.Given as goal

-- the least so far with the stores that are left comes to the least of all
abbrev pub invariant-loop-region : goal.invariant-loop-region
invariant-loop-region g l =
    let keepers = g.K.Keeper.state in
    let tables = (keepers l.fn.keepers).told in
    record {
      least : WhereTold g.K.Keeper.TELLS (least_left l.config tables l.shard l.region l.least ≡ least_mark l.config tables l.shard l.fn.position);
      same : l.stores ≡ l.fn.stores;
      tables : KeepsTables g.K.Keeper.TELLS (keepers l.fn.keepers) (keepers l.keepers);
      later : IsLater (keepers l.fn.keepers) (keepers l.keepers);
    }
