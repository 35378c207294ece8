use Rattle.std.proofs.Common.{◌<◌, arith, length, refl, subst, sym, ◌∙◌}
use Rattle.core_model.specs.Stores.{AreStoresOf}
use Rattle.core_nodes.proofs.AskLemmas.{stores_here}
use Rattle.core_nodes.proofs.TrimLemmas.{left_at_first, left_next}
use Rattle.core_nodes.proofs.trimming.least_among.Goals as goal

pub loop-region-init : goal.loop-region-init
loop-region-init g c =
    let state = g.K.Keeper.state in
    record {
      least = λ told. left_at_first c.args.config.now (state c.args.keepers.now).told c.args.shard c.args.position;
      same = refl;
      tables = λ told at. refl;
      later = record { calls = omega arith; faults = omega arith };
    }

pub stored_length-requires-clause-stores : goal.stored_length-requires-clause-stores
stored_length-requires-clause-stores g c =
    let state = g.K.Keeper.state in
    subst (AreStoresOf g.K.Keeper.TELLS c.args.config.now (state c.loop-region.keepers).told) (sym c.loop-region.invariant.same)
    (stores_here g.K.Keeper.TELLS c.args.config.now (state c.args.keepers.now).told (state c.loop-region.keepers).told c.args.stores.now c.requires.stores
    c.loop-region.invariant.tables)

pub loop-region-preserved : goal.loop-region-preserved
loop-region-preserved g c =
    let state = g.K.Keeper.state in
    let region = c.loop-region.region in
    let was = c.loop-region.invariant in
    let within : region < length c.args.config.now.regions = omega (arith, c.loop-region-test.true, c.region_count-region-end.ensures) in
    record {
      least = left_next c.args.config.now (state c.args.keepers.now).told c.args.shard g.K.Keeper.TELLS (state c.loop-region.keepers).told c.args.position
          region c.loop-region.least c.in_ok-length.length c.min-least.result c.region_store.result within c.min-least.ensures c.region_store.ensures
          c.in_ok-length.ensures.length was.tables was.least;
      same = c.in_ok-length.ensures.same ∙ was.same;
      tables = λ told at. c.in_ok-length.ensures.tables told at ∙ was.tables told at;
      later = record { calls = omega arith; faults = omega arith };
    }
