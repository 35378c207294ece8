use Rattle.core_steps.proofs.LeaderNames.{leader_region}
use Rattle.core_steps.proofs.nodes.Nodes.asked_of_leader.Goals as goal

pub ask-requires-clause-here : goal.ask-requires-clause-here
ask-requires-clause-here g c =
    record { region = leader_region c.args.config.now c.args.leader c.requires.leader.configured; shard = c.requires.leader.here }
