use Rattle.std.proofs.Common.{◌∙◌, subst, sym}
use Rattle.core_steps.specs.World.{World, world}
use Rattle.replies.specs.declared.reply.Reply.{Reply}
use Rattle.core_plans.specs.HeldReads.{EndsReadAndPasses}
use Rattle.core_plans.specs.LedBy.{rules_of}
use Rattle.core_plans.proofs.ReadsHeld.{down_passes}
use Rattle.core_plans.proofs.reads.read_stage.Goals as goal

pub returns-in-Some : goal.returns-in-Some
returns-in-Some g c =
    let keepers = g.K.Keeper.state c.args.keepers.now in
    let link = g.L.Link.shown c.args.link.now in
    let rules = rules_of g.K.Keeper.TELLS c.args.config.now in
    let old : World = world c.args.nodes.now keepers link in
    let new : World = world c.end_read.new.nodes keepers link in
    let q = c.end_read.new.plan in
    down_passes rules c.args.plan.now q old new c.in-Some.node (sym c.read_down.ensures ∙ c.in-Some.is)
    (subst (λ (reply : Reply). EndsReadAndPasses rules reply c.args.plan.now old q new) c.read_is_down.ensures c.end_read.ensures)
