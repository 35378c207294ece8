use Rattle.std.proofs.Common.{◌∙◌, ap, subst, sym}
use Rattle.std.specs.Option.{option_copied}
use Rattle.core_model.specs.Consistent.{GoesOn}
use Rattle.core_model.specs.Jobs.{IsMergedJob}
use Rattle.core_steps.proofs.core_nodes_lemmas.FleetLemmas.{goes_self}
use Rattle.core_steps.specs.OtherEnds.{EndsOver}
use Rattle.core_steps.specs.World.{World, world}
use Rattle.core_steps.specs.declared.nodes.Nodes.{Nodes}
use Rattle.graph_model.specs.Told.{WhereTold}
use Rattle.core_plans.specs.HeldWrites.{job_by}
use Rattle.core_plans.proofs.HeldWriteStages.{at_end, ended_on, no_carries, no_job, of_job, taken_on, to_job}
use Rattle.core_plans.proofs.WritesGoOn.{write_later}
use Rattle.core_plans.proofs.writes.end_stage.Goals as goal
use Rattle.tao_base.specs.Writes.{write_shard}
use Rattle.tao_link.specs.Shown.{LinkShown}
use Rattle.write_plan.specs.declared.results.WriteResult.TheVariants as came

pub unreachable-requires : goal.unreachable-requires
unreachable-requires g c =
    no_job c.args.plan.now (at_end c.args.plan.now c.requires.stage).0 (sym c.job.ensures ∙ ap option_copied c.in_default.is)

pub end_over-result-requires-clause-merged : goal.end_over-result-requires-clause-merged
end_over-result-requires-clause-merged g c =
    let now = (g.K.Keeper.state c.args.keepers.now).told in
    of_job (λ j. WhereTold g.K.Keeper.TELLS (IsMergedJob c.args.config.now now j)) c.args.plan.now c.in-Some.job.now c.shard-shard.result
    (c.shard-shard.ensures ∙ ap write_shard c.write.ensures) (sym c.job.ensures ∙ ap option_copied c.in-Some.is)
    (c.requires.write.merged (at_end c.args.plan.now c.requires.stage).1)

pub returns : goal.returns
returns g c =
    let state = g.K.Keeper.state in
    let tells = g.K.Keeper.TELLS in
    let s = c.args.config.now in
    let p = c.args.plan.now in
    let job = c.in-Some.job.now in
    let result = c.end_over-result.result in
    let end = c.end_over-result.new in
    let later = (state end.keepers).told in
    let over = c.end_over-result.ensures in
    let Old : LinkShown → World = world c.args.nodes.now (state c.args.keepers.now) in
    let New : LinkShown → World = world end.self (state end.keepers) in
    let answered = sym c.job.ensures ∙ ap option_copied c.in-Some.is in
    let ends : (link : LinkShown) → EndsOver tells s (job_by p job) result (Old link) (New link) =
    λ link. to_job (λ j. EndsOver tells s j result (Old link) (New link)) p job c.shard-shard.result
    (c.shard-shard.ensures ∙ ap write_shard c.write.ensures) (over.ends link) in
    let then = c.take.ensures.next (sym c.requires.stage) in
    let goes = subst (λ (n : Nodes). GoesOn c.args.nodes.now.fleet n.fleet) (sym over.same) (goes_self c.args.nodes.now.fleet) in
    record {
      does = λ link. record { job = job; answered = answered; result = result; ends = ends link; then = then };
      write = taken_on tells s later end.self.fleet p c.take.new.self (came.End result) 0 then
          (ended_on tells s later end.self.fleet p job result (Old no_carries) (New no_carries)
          (write_later tells s (state c.args.keepers.now).told later c.args.nodes.now.fleet end.self.fleet p over.consistent goes over.grows.on
          c.requires.write)
          answered (ends no_carries));
      same = over.same;
      consistent = over.consistent;
      grows = over.grows;
      later = over.later;
    }
