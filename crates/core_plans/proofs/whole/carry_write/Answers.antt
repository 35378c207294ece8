use Rattle.core_plans.proofs.InTurn.{none_carried, one_carried}
use Rattle.core_plans.proofs.StagesLeft.{stage_closer}
use Rattle.core_plans.specs.LedBy.{rules_of}
use Rattle.core_plans.specs.declared.held.HeldPlan.TheVariants.{Write}
use Rattle.core_steps.specs.World.{world}
use Rattle.core_plans.proofs.whole.carry_write.Goals as goal

pub loop-nodes-init : goal.loop-nodes-init
loop-nodes-init g c =
    none_carried (rules_of g.K.Keeper.TELLS c.args.config.now) (Write c.args.plan.now)
    (world c.args.nodes.now (g.K.Keeper.state c.args.keepers.now) (g.L.Link.shown c.args.link.now)) c.requires.ready c.requires.write

pub loop-nodes-smaller : goal.loop-nodes-smaller
loop-nodes-smaller g c =
    let state = g.K.Keeper.state in
    let shown = g.L.Link.shown in
    let was = c.loop-nodes in
    let did = c.write_stage in
    stage_closer (rules_of g.K.Keeper.TELLS c.args.config.now) (Write was.plan) (Write did.new.plan)
    (world was.nodes (state was.keepers) (shown was.link))
    (world did.new.nodes (state did.new.keepers) (shown did.new.link)) did.ensures.comes

pub loop-nodes-preserved : goal.loop-nodes-preserved
loop-nodes-preserved g c =
    let state = g.K.Keeper.state in
    let shown = g.L.Link.shown in
    let was = c.loop-nodes in
    let did = c.write_stage in
    one_carried (rules_of g.K.Keeper.TELLS c.args.config.now) (Write c.args.plan.now) (Write was.plan) (Write did.new.plan)
    (world c.args.nodes.now (state c.args.keepers.now) (shown c.args.link.now))
    (world was.nodes (state was.keepers) (shown was.link))
    (world did.new.nodes (state did.new.keepers) (shown did.new.link))
    was.invariant did.ensures.comes did.ensures.write did.ensures.on
