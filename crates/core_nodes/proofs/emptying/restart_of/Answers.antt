use Rattle.std.proofs.Common.{arith, sym, subst, ◌∙◌}
use Rattle.core_model.specs.Stores.{AreStoresOf}
use Rattle.core_nodes.proofs.AskLemmas.{stores_here}
use Rattle.core_nodes.proofs.RestartLemmas.{restart_next}
use Rattle.core_nodes.proofs.StoreLemmas.{pushed}
use Rattle.core_nodes.proofs.emptying.restart_of.Goals as goal

pub measure_at-requires-clause-stores : goal.measure_at-requires-clause-stores
measure_at-requires-clause-stores g c =
    let state = g.K.Keeper.state in
    subst (AreStoresOf g.K.Keeper.TELLS c.args.config.now (state c.loop-shard.keepers).told) (sym c.loop-shard.invariant.same)
    (stores_here g.K.Keeper.TELLS c.args.config.now (state c.args.keepers.now).told (state c.loop-shard.keepers).told c.args.stores.now c.requires.stores
    c.loop-shard.invariant.tables)

pub loop-shard-preserved : goal.loop-shard-preserved
loop-shard-preserved g c =
    let state = g.K.Keeper.state in
    let lows = pushed c.push.result c.is_err.result _ _ _ c.is_err.ensures.value c.if-is_err.false c.push.ensures.items in
    let notes = pushed c.push-in-loop-shard.result c.is_err-in-loop-shard.result _ _ _ c.is_err-in-loop-shard.ensures.value c.if-is_err-2.false
    c.push-in-loop-shard.ensures.items in
    record {
      restart = restart_next g.K.Keeper.TELLS (state c.args.keepers.now).told (state c.loop-shard.keepers).told c.args.stores.now c.loop-shard.stores
          c.args.region c.args.shards.now c.loop-shard.shard-index _ c.loop-shard.lows.items c.push.new.self.items c.loop-shard.notes.items
          c.push-in-loop-shard.new.self.items c.region_store.result c.in_ok-low.field-0.low c.in_ok-low.field-0.note c.loop-shard.invariant.restart
          c.loop-shard.invariant.same c.loop-shard-test.true c.loop-shard.invariant.tables c.region_store.ensures c.in_ok-low.ensures.begins
          lows notes;
      same = c.in_ok-low.ensures.same ∙ c.loop-shard.invariant.same;
      tables = λ told at. c.in_ok-low.ensures.tables told at ∙ c.loop-shard.invariant.tables told at;
      later = record { calls = omega arith; faults = omega arith };
    }
