use Rattle.core_plans.proofs.InTurn.{none_carried}
use Rattle.core_plans.proofs.ReadsHeld.{passes_alone, read_carried}
use Rattle.core_plans.proofs.StagesLeft.{stage_closer}
use Rattle.core_plans.specs.LedBy.{rules_of}
use Rattle.core_plans.specs.declared.held.HeldPlan.TheVariants.{Read}
use Rattle.core_steps.specs.World.{world}
use Rattle.core_plans.proofs.whole.carry_read.Goals as goal

pub loop-nodes-init : goal.loop-nodes-init
loop-nodes-init g c =
    none_carried (rules_of g.K.Keeper.TELLS c.args.config.now) (Read c.args.plan.now)
    (world c.args.nodes.now (g.K.Keeper.state c.args.keepers.now) (g.L.Link.shown c.args.link.now)) c.requires.ready c.requires.read

pub loop-nodes-smaller : goal.loop-nodes-smaller
loop-nodes-smaller g c =
    let state = g.K.Keeper.state in
    let shown = g.L.Link.shown in
    let rules = rules_of g.K.Keeper.TELLS c.args.config.now in
    let was = c.loop-nodes in
    let did = c.read_stage in
    let old = world was.nodes (state was.keepers) (shown was.link) in
    let new = world did.new.nodes (state did.new.keepers) (shown did.new.link) in
    stage_closer rules (Read was.plan) (Read did.new.plan) old new (passes_alone rules was.plan did.new.plan old new did.ensures)

pub loop-nodes-preserved : goal.loop-nodes-preserved
loop-nodes-preserved g c =
    let state = g.K.Keeper.state in
    let shown = g.L.Link.shown in
    let was = c.loop-nodes in
    let did = c.read_stage in
    read_carried (rules_of g.K.Keeper.TELLS c.args.config.now) c.args.plan.now was.plan did.new.plan
    (world c.args.nodes.now (state c.args.keepers.now) (shown c.args.link.now))
    (world was.nodes (state was.keepers) (shown was.link))
    (world did.new.nodes (state did.new.keepers) (shown did.new.link))
    c.requires.ready was.invariant did.ensures
