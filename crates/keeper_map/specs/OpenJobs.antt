-- The open jobs that the keeper in memory holds.
use Rattle.tao_keeper.specs.Table.{Jobs}
use Rattle.keeper_map.specs.Jobs.{listed}
use Rattle.keeper_map.specs.declared.jobs.OpenJobs.{OpenJobs}

-- the open jobs, as contracts see them: each under the position of its entry
abbrev pub jobs_of : OpenJobs → Jobs
jobs_of open_jobs = listed open_jobs.jobs
