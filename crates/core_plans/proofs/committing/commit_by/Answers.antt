use Rattle.std.proofs.Common.{◌≡◌, ◌∙◌, ap, arith, sym}
use Rattle.core_steps.specs.Routes.{hops_between}
use Rattle.core_steps.specs.World.{World, world}
use Rattle.core_plans.proofs.HeldWriteStages.{commits_pass}
use Rattle.core_plans.proofs.committing.commit_by.Goals as goal
use Rattle.write_plan.specs.Plans.{after_stage}
use Rattle.write_plan.specs.declared.results.WriteResult.TheVariants as came

pub returns : goal.returns
returns g c =
    let state = g.K.Keeper.state in
    let shown = g.L.Link.shown in
    let p = c.args.plan.now in
    let end = c.commit_there-given.new in
    let given = c.commit_there-given in
    let old : World = world c.args.nodes.now (state c.args.keepers.now) (shown c.args.link.now) in
    let new : World = world end.nodes (state end.keepers) (shown end.link) in
    let took = c.saturating_sub-hops.result in
    let hops : took ≡ hops_between old.link new.link =
    omega (arith, c.saturating_sub-hops.ensures, c.carries.ensures, c.carries-carries.ensures) in
    let done = commits_pass g.K.Keeper.TELLS c.args.config.now p c.take.new.self old new c.requires.write given.ensures.on
    c.args.leaders c.requires.stage given.result took given.ensures.comes hops
    (c.take.ensures.next (sym c.requires.stage) ∙ ap (λ came_to. after_stage p (came.Commit came_to) took) c.taken_as.ensures) in
    record { does = done.0; write = done.1; on = given.ensures.on }
