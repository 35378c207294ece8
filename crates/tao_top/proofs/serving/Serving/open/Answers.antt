use Rattle.tao_top.proofs.Keeping.{serves_opened, still_opened, still_refused}
use Rattle.tao_top.proofs.serving.Serving.open.Goals as goal

pub returns-in_err-core-clause-tables : goal.returns-in_err-core-clause-tables
returns-in_err-core-clause-tables g c =
    let keepers = g.K.Keeper.state in record {
      histories = c.open.ensures.grows;
      still = still_refused g.K.Keeper.TELLS c.args.config.now c.args.line.now (keepers c.args.keepers.now)
          (keepers c.open.new.keepers) _ c.in_err-core.ensures.refused;
    }

pub returns-clause-serving : goal.returns-clause-serving
returns-clause-serving g c =
    serves_opened g.K.Keeper.TELLS c.args.config.now c.args.line.now c.in_ok-core.core (g.K.Keeper.state c.args.keepers.now).told
    (g.K.Keeper.state c.open.new.keepers).told
    c.requires.configured c.in_ok-core.ensures.settings c.in_ok-core.ensures.opened c.in_ok-core.ensures.keepers

pub returns-clause-tables : goal.returns-clause-tables
returns-clause-tables g c = record {
  histories = c.open.ensures.grows;
  still = λ told. let opened = c.in_ok-core.ensures.opened told in still_opened c.args.config.now c.args.line.now _ _ _ opened.opened;
}
