use Rattle.std.proofs.Common.{◌≡◌, ◌∙◌, ap, arith, sym}
use Rattle.std.specs.Option.{option_copied}
use Rattle.core_model.specs.Jobs.{CanBeMerged}
use Rattle.core_steps.specs.Routes.{hops_between}
use Rattle.core_steps.specs.World.{World, world}
use Rattle.core_plans.proofs.HeldWriteStages.{at_inverse, job_answered, merges_pass, no_job, of_job, sends_job}
use Rattle.core_plans.proofs.writes.inverse_stage.Goals as goal
use Rattle.tao_base.specs.Writes.{write_shard}

pub committer-requires : goal.committer-requires
committer-requires g c = job_answered c.args.plan.now (at_inverse c.args.plan.now c.requires.stage).0

pub unreachable-requires : goal.unreachable-requires
unreachable-requires g c =
    no_job c.args.plan.now (at_inverse c.args.plan.now c.requires.stage).0 (sym c.job.ensures ∙ ap option_copied c.in_default.is)

pub merge_over-result-requires-clause-job : goal.merge_over-result-requires-clause-job
merge_over-result-requires-clause-job g c =
    let now = (g.K.Keeper.state c.args.keepers.now).told in
    of_job (CanBeMerged g.K.Keeper.TELLS c.args.config.now now) c.args.plan.now c.in-Some.job.now c.shard-shard.result
    (c.shard-shard.ensures ∙ ap write_shard c.write.ensures) (sym c.job.ensures ∙ ap option_copied c.in-Some.is) c.requires.write.job

pub returns : goal.returns
returns g c =
    let state = g.K.Keeper.state in
    let shown = g.L.Link.shown in
    let p = c.args.plan.now in
    let result = c.merge_over-result.result in
    let end = c.merge_over-result.new in
    let over = c.merge_over-result.ensures in
    let old : World = world c.args.nodes.now (state c.args.keepers.now) (shown c.args.link.now) in
    let new : World = world end.self (state end.keepers) (shown end.link) in
    let hops : c.saturating_sub-hops.result ≡ hops_between old.link new.link =
    omega (arith, c.saturating_sub-hops.ensures, c.carries.ensures, c.carries-carries.ensures) in
    merges_pass g.K.Keeper.TELLS c.args.config.now p c.take.new.self old new c.requires.write over.on
    (record { leader = c.committer.result; by = c.tier_of_write.result }) c.in-Some.job.now c.shard-shard.result result c.saturating_sub-hops.result
    (sends_job p c.committer.result c.tier_of_write.result c.committer.ensures c.tier_of_write.ensures)
    (sym c.job.ensures ∙ ap option_copied c.in-Some.is) (c.shard-shard.ensures ∙ ap write_shard c.write.ensures) over.merges over.merged over.stands
    hops (c.take.ensures.next (sym c.requires.stage))
