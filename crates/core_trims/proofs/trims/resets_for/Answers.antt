use Rattle.std.proofs.Common.{◌∙◌, ap, arith}
use Rattle.core_model.specs.Fleet.{Fleet}
use Rattle.core_model.specs.Pens.{pens_of}
use Rattle.core_model.specs.Emptied.{region_tables}
use Rattle.core_steps.proofs.core_nodes_lemmas.StoreLemmas.{pushed}
use Rattle.tao_keeper.proofs.Later.{keeps_trans}
use Rattle.core_trims.proofs.Resetting.{prepare_more, prepare_names, restart_back}
use Rattle.core_trims.proofs.trims.resets_for.Goals as goal

pub loop-name-preserved : goal.loop-name-preserved
loop-name-preserved g c =
    let state = g.K.Keeper.state in
    let longer = pushed c.push.result c.is_err.result _ _ _ c.is_err.ensures.value c.if-is_err.false c.push.ensures.items in
    record {
      names = prepare_names c.args.config.now (pens_of c.args.nodes.now.fleet.stores)
          (region_tables g.K.Keeper.TELLS (state c.args.keepers.now).told c.args.region) c.args.names.now c.loop-name.name-index _
          c.loop-name.resets.items c.push.new.self.items c.in_ok-stand.stand c.loop-name.invariant.names c.loop-name-test.true longer;
      prepared = prepare_more c.args.config.now (pens_of c.args.nodes.now.fleet.stores)
          (region_tables g.K.Keeper.TELLS (state c.args.keepers.now).told c.args.region) c.args.names.now c.loop-name.name-index _
          c.loop-name.resets.items c.push.new.self.items c.in_ok-stand.stand
          c.loop-name.invariant.prepared c.requires.names c.loop-name-test.true
          (restart_back g.K.Keeper.TELLS c.args.config.now (state c.args.keepers.now).told (state c.loop-name.keepers).told c.args.nodes.now c.loop-name.nodes
          _ c.in_ok-stand.stand c.loop-name.invariant.same c.loop-name.invariant.tables c.in_ok-stand.ensures.restart) longer;
      same = ap (λ (f : Fleet). record c.loop-name.nodes { fleet = f }) c.restart.ensures.same ∙ c.loop-name.invariant.same;
      consistent = c.restart.ensures.consistent;
      tables = keeps_trans g.K.Keeper.TELLS (state c.args.keepers.now) (state c.loop-name.keepers) (state c.restart.new.keepers) c.loop-name.invariant.tables
          c.restart.ensures.tables;
      later = record { calls = omega arith; faults = omega arith };
    }
