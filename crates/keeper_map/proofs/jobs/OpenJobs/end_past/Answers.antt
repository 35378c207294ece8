use Rattle.keeper_map.proofs.JobLemmas.{still_stand_within}
use Rattle.keeper_map.proofs.jobs.OpenJobs.end_past.Goals as goal

pub invariant_of-self : goal.invariant_of-self
invariant_of-self c = record {
  stand = still_stand_within c.args.last c.args.self.now.jobs c.retain_within.new.jobs c.retain_within.ensures c.args.self.now.stand;
}
