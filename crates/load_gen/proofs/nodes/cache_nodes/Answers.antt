use Rattle.std.proofs.Common.{◌∙◌}
use Rattle.load_gen.proofs.NodeLemmas.{region_joins}
use Rattle.load_gen.proofs.nodes.cache_nodes.Goals as goal

pub loop-place-preserved : goal.loop-place-preserved
loop-place-preserved c = region_joins c.loop-place.place c.args.regions.now c.index-regions-place.result
    c.loop-place.nodes.items c.deref.result.now c.extend_from_slice.new.self.items _ c.loop-place-test.true c.index-regions-place.is
    (c.deref.ensures.value ∙ c.in_ok-of_region.ensures) c.in_ok-extend_from_slice.ensures.items c.loop-place.invariant
