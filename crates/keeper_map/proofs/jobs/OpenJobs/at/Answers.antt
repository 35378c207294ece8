use Rattle.keeper_map.proofs.JobLemmas.{found_is}
use Rattle.keeper_map.proofs.jobs.OpenJobs.at.Goals as goal

pub returns-clause-job : goal.returns-clause-job
returns-clause-job c = found_is c.args.self.now.jobs c.args.position _ c.args.self.now.stand c.get.ensures.value
