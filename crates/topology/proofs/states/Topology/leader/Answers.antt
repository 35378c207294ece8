use Rattle.topology.specs.Choices.{leaders_in_turn, may_lead}
use Rattle.topology.proofs.Found.{find_passes}
use Rattle.topology.proofs.states.Topology.leader.Goals as goal

pub returns-clause-serves : goal.returns-clause-serves
returns-clause-serves c = rw c.first_leader.ensures
    (find_passes (may_lead c.args.self.now c.args.by) (leaders_in_turn c.args.self.now.regions c.args.region c.args.shard))
