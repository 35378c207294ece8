use Rattle.std.proofs.Common.{◌∙◌, ap, arith, sym}
use Rattle.keeper_map.specs.OpenJobs.{jobs_of}
use Rattle.tao_keeper.specs.Table.{with_job}
use Rattle.std.specs.Prelude.{None, Some}
use Rattle.keeper_map.proofs.Grown.{closed_again, not_opened, opened_first}
use Rattle.keeper_map.proofs.store.push_with_job.Goals as goal

pub returns-then-is_err-clause-jobs : goal.returns-then-is_err-clause-jobs
returns-then-is_err-clause-jobs c =
    let free = c.requires.last c.args.job.position (omega arith) in
    not_opened c.push-pushed.result (jobs_of c.args.jobs.now) _ _ (sym c.if-is_err.ensures.value)
    (c.end.ensures ∙ ap (λ jobs. with_job jobs c.args.job.position None) (c.in_ok-open.ensures ∙ opened_first (jobs_of c.args.jobs.now) c.args.job free)
    ∙ (λ i position. closed_again (jobs_of c.args.jobs.now) c.args.job.position (Some c.args.job.edges) free position i))
