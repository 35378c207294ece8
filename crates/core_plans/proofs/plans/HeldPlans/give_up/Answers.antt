use Rattle.std.proofs.Common.{subst, sym}
use Rattle.std.specs.Prelude.{IsSome, option_and_then}
use Rattle.core_plans.specs.Held.{learner, plan_at}
use Rattle.core_plans.proofs.PlanMaps.{gives_up_plan}
use Rattle.core_plans.proofs.plans.HeldPlans.give_up.Goals as goal
use Rattle.core_steps.specs.World.{World, world}

pub give_up_stage-requires-clause-last : goal.give_up_stage-requires-clause-last
give_up_stage-requires-clause-last g c =
    subst (λ plan. IsSome (option_and_then learner plan)) (sym c.in-Some.ensures.value)
    (subst (λ seen. IsSome (option_and_then learner (plan_at seen c.args.number))) (sym c.self.view_is) c.requires.last)

pub returns-clause-gives_up : goal.returns-clause-gives_up
returns-clause-gives_up g c =
    let keepers = g.K.Keeper.state c.args.keepers.now in
    let link = g.L.Link.shown c.args.link.now in
    let now = c.give_up_stage.new in
    let old : World = world c.args.nodes.now keepers link in
    let new : World = world now.nodes keepers link in
    let before = c.in-Some.plan.now in
    let learns : IsSome (learner before) = subst (λ plan. IsSome (option_and_then learner plan)) (sym c.in-Some.ensures.value)
    (subst (λ seen. IsSome (option_and_then learner (plan_at seen c.args.number))) (sym c.self.view_is) c.requires.last) in
    gives_up_plan c.args.number c.args.self.now c.self.inside.plans (c.get_mut.follows.lender now.plan) before now.plan old new c.self.view_is
    c.in-Some.ensures.value learns c.give_up_stage.ensures.gives_up (c.get_mut.follows.holds now.plan)
