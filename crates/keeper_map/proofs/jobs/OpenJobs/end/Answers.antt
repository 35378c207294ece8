use Rattle.std.proofs.Common.{None}
use Rattle.keeper_map.proofs.JobLemmas.{still_stand}
use Rattle.keeper_map.proofs.jobs.OpenJobs.end.Goals as goal

pub invariant_of-self : goal.invariant_of-self
invariant_of-self c = record {
  stand = still_stand c.args.position None c.args.self.now.jobs c.remove.new.self c.remove.ensures.updates.0 c.args.self.now.stand (λ job h. absurd (cc));
}
