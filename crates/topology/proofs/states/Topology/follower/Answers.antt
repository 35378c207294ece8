use Rattle.topology.specs.Choices.{followers_in_turn}
use Rattle.topology.specs.States.{is_up}
use Rattle.topology.proofs.Found.{find_passes}
use Rattle.topology.proofs.states.Topology.follower.Goals as goal

pub returns-clause-up : goal.returns-clause-up
returns-clause-up c = rw c.first_follower.ensures (find_passes (is_up c.args.self.now)
    (followers_in_turn c.args.self.now.regions c.args.region c.args.tier c.args.shard))
