use Rattle.std.proofs.Common.{◌∙◌}
use Rattle.load_gen.proofs.NodeLemmas.{tier_joins}
use Rattle.load_gen.proofs.nodes.region_nodes.Goals as goal

pub loop-tier_place-preserved : goal.loop-tier_place-preserved
loop-tier_place-preserved c = tier_joins c.args.place c.loop-tier_place.tier_place c.as_slice-tiers.result.now c.index-tiers-tier_place.result
    c.loop-tier_place.nodes.items c.deref.result.now c.extend_from_slice.new.self.items _ c.loop-tier_place-test.true c.index-tiers-tier_place.is
    (c.deref.ensures.value ∙ c.in_ok-of_tier.ensures) c.in_ok-extend_from_slice.ensures.items c.loop-tier_place.invariant
