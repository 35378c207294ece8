use Rattle.core_plans.proofs.HeldReadStages.{ends_over}
use Rattle.core_plans.proofs.reads.end_read.Goals as goal

pub returns : goal.returns
returns g c =
    ends_over g.K.Keeper.TELLS c.args.config.now c.args.plan.now c.take.new.self c.args.nodes.now (g.K.Keeper.state c.args.keepers.now)
    (g.L.Link.shown c.args.link.now) c.end_ask_of.new.fleet c.args.reply c.next.result c.refused-outcome.result c.requires.consistent c.requires.read
    c.end_ask_of.ensures c.next.ensures.stage c.refused-outcome.ensures c.take.ensures
