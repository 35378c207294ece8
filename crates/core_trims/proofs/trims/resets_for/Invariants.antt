use Rattle.std.proofs.Common.{◌≡◌, take}
use Rattle.core_model.specs.Consistent.{IsConsistent}
use Rattle.core_model.specs.Emptied.{region_tables}
use Rattle.core_model.specs.Pens.{pens_of}
use Rattle.core_trims.specs.Trims.{ArePrepared, names_of}
use Rattle.tao_keeper.specs.KeeperState.{IsLater, KeepsTables}
use Rattle.core_trims.proofs.trims.resets_for.Given as goal

-- the first of the nodes are prepared
abbrev pub invariant-loop-name : goal.invariant-loop-name
invariant-loop-name g l =
    let keepers = g.K.Keeper.state in
    record {
      names : names_of l.resets.items ≡ take l.name-index l.names;
      prepared : ArePrepared l.fn.config (pens_of l.fn.nodes.fleet.stores)
          (region_tables g.K.Keeper.TELLS (keepers l.fn.keepers).told l.fn.region) l.resets.items;
      same : l.nodes ≡ l.fn.nodes;
      consistent : IsConsistent g.K.Keeper.TELLS l.fn.config (keepers l.keepers).told l.nodes.fleet;
      tables : KeepsTables g.K.Keeper.TELLS (keepers l.fn.keepers) (keepers l.keepers);
      later : IsLater (keepers l.fn.keepers) (keepers l.keepers);
    }
