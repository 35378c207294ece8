use Rattle.core_plans.specs.LedBy.{rules_of}
use Rattle.core_plans.proofs.ReadsHeld.{reads_post}
use Rattle.core_plans.proofs.plans.held_stage.Goals as goal
use Rattle.core_steps.specs.World.{world}

pub returns-in-Read-clause-on : goal.returns-in-Read-clause-on
returns-in-Read-clause-on g c =
    let did = c.read_stage.new in
    reads_post (rules_of g.K.Keeper.TELLS c.args.config.now)
    (world c.args.nodes.now (g.K.Keeper.state c.args.keepers.now) (g.L.Link.shown c.args.link.now))
    (world did.nodes (g.K.Keeper.state did.keepers) (g.L.Link.shown did.link)) c.requires.ready c.read_stage.ensures.on
