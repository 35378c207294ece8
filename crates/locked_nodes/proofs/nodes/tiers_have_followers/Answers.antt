use Rattle.std.proofs.Common.{ap, ◌∙◌}
use Rattle.topology.specs.Config.{Settings}
use Rattle.locked_nodes.proofs.Choosing.{no_tier, region_found, region_missing, some_follower}
use Rattle.locked_nodes.proofs.nodes.tiers_have_followers.Goals as goal

pub returns-in-Some : goal.returns-in-Some
returns-in-Some c =
    some_follower c.args.config.now c.args.region c.args.tier c.in-Some.region.now
    (region_found c.args.config.now c.as_slice.result.now c.from.result c.args.region c.in-Some.region.now
    (c.as_slice.ensures.value ∙ ap (λ (s : Settings). s.regions) c.config.view_is) c.from.ensures c.in-Some.ensures.lookup.0 c.in-Some.ensures.lookup.1)
    c.as_slice-in-Some.ensures.rules c.requires

pub returns-in-None : goal.returns-in-None
returns-in-None c =
    absurd (no_tier c.args.config.now c.args.region c.args.tier
    (region_missing c.args.config.now c.as_slice.result.now c.from.result c.args.region
    (c.as_slice.ensures.value ∙ ap (λ (s : Settings). s.regions) c.config.view_is) c.from.ensures c.in-None.ensures.lookup.0) c.requires)
