use Rattle.core_steps.specs.World.{world}
use Rattle.core_plans.proofs.PlanMaps.{steps_plan}
use Rattle.core_plans.proofs.plans.HeldPlans.step.Goals as goal

pub returns-clause-steps : goal.returns-clause-steps
returns-clause-steps g c =
    let state = g.K.Keeper.state in
    let shown = g.L.Link.shown in
    let now = c.held_stage.new in
    let old = world c.args.nodes.now (state c.args.keepers.now) (shown c.args.link.now) in
    let new = world now.nodes (state now.keepers) (shown now.link) in
    steps_plan g.K.Keeper.TELLS c.args.config.now c.args.number c.args.self.now c.self.inside.plans
    (c.get_mut.follows.lender now.plan)
    c.in-Some.plan.now now.plan old new c.self.view_is c.in-Some.ensures.value c.held_stage.ensures.steps (c.get_mut.follows.holds now.plan)
