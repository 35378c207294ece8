use Rattle.keeper_map.proofs.JobLemmas.{first_is}
use Rattle.keeper_map.proofs.jobs.OpenJobs.first.Goals as goal

pub returns-clause-job : goal.returns-clause-job
returns-clause-job c =
    first_is c.args.self.now.jobs c.in_ok-job.field-0-0.now c.in_ok-job.job.now c.args.self.now.stand c.in_ok-job.ensures.value c.in_ok-job.ensures.least

pub returns-clause-given : goal.returns-clause-given
returns-clause-given c = (c.args.self.now.stand c.in_ok-job.field-0-0.now c.in_ok-job.job.now c.in_ok-job.ensures.value).given
