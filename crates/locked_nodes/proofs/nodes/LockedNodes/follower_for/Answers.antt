use Rattle.std.proofs.Common.{sym, subst, ◌<◌, ◌∙◌}
use Rattle.core_model.specs.Fleet.{regions_of}
use Rattle.locked_nodes.proofs.Choosing.{follower_serves, follower_there}
use Rattle.locked_nodes.specs.Nodes.{HasTier}
use Rattle.topology.specs.Config.{Settings}
use Rattle.topology.specs.Counts.{follower_count}
use Rattle.locked_nodes.proofs.nodes.LockedNodes.follower_for.Goals as goal

pub tiers_have_followers-requires : goal.tiers_have_followers-requires
tiers_have_followers-requires g c =
    subst (λ (s : Settings). HasTier s c.args.region c.args.tier) (sym c.self.invariant.0) c.requires.tier

pub unreachable-requires : goal.unreachable-requires
unreachable-requires g c =
    follower_there g.J.Sharing.making.settings c.self.inside.topology c.args.region c.args.tier c.args.shard c.self.invariant.1 c.requires.tier
    (subst (λ (s : Settings). 0 < follower_count (regions_of s) c.args.region c.args.tier) c.self.invariant.0 c.tiers_have_followers.ensures)
    (sym c.in-None.is ∙ c.follower.ensures.chosen)

pub returns : goal.returns
returns g c = record {
  serves = follower_serves g.J.Sharing.making.settings c.self.inside.topology c.args.region c.args.tier c.args.shard c.in-Some.name c.self.invariant.1
      c.requires.here (sym c.in-Some.is ∙ c.follower.ensures.chosen);
}
