use Rattle.graph_model.specs.Told.{WhereTold}
use Rattle.core_nodes.specs.Opening.{AreOpened, AreReady}
use Rattle.tao_keeper.specs.KeeperState.{IsLater}
use Rattle.core_nodes.proofs.opening.open_lines.Given as goal

abbrev pub invariant-loop-place : goal.invariant-loop-place
invariant-loop-place g l =
    let keepers = g.K.Keeper.state in
    record {
      opened : WhereTold g.K.Keeper.TELLS (AreOpened l.config l.line l.place (g.K.Keeper.state l.fn.keepers).told (g.K.Keeper.state l.keepers).told);
      ready : WhereTold g.K.Keeper.TELLS (AreReady l.config l.line l.place (g.K.Keeper.state l.fn.keepers).told);
      later : IsLater (keepers l.fn.keepers) (keepers l.keepers);
    }
