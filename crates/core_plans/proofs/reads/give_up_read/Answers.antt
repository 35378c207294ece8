use Rattle.std.proofs.Common.{subst}
use Rattle.core_steps.specs.World.{World, world}
use Rattle.replies.specs.declared.reply.Reply.{Reply}
use Rattle.core_plans.specs.HeldReads.{EndsReadAndPasses}
use Rattle.core_plans.specs.LedBy.{rules_of}
use Rattle.core_plans.proofs.reads.give_up_read.Goals as goal

pub returns : goal.returns
returns g c =
    let keepers = g.K.Keeper.state c.args.keepers.now in
    let link = g.L.Link.shown c.args.link.now in
    let old : World = world c.args.nodes.now keepers link in
    let new : World = world c.end_read.new.nodes keepers link in
    subst (λ (reply : Reply). EndsReadAndPasses (rules_of g.K.Keeper.TELLS c.args.config.now) reply c.args.plan.now old c.end_read.new.plan new)
    c.out_of_memory.ensures c.end_read.ensures
