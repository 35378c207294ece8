use Rattle.locked_nodes.proofs.Choosing.{leader_serves}
use Rattle.locked_nodes.proofs.nodes.LockedNodes.leader_for.Goals as goal

pub returns : goal.returns
returns g c = record {
  serves = leader_serves g.J.Sharing.making.settings c.self.inside.topology c.args.region c.args.shard c.preferred.result c.self.invariant.1 c.requires.home
      c.requires.here c.preferred.ensures.preferred c.preferred.ensures.configured;
}
