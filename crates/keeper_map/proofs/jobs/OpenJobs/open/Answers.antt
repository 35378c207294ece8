use Rattle.keeper_map.proofs.JobLemmas.{still_stand_opened}
use Rattle.keeper_map.proofs.jobs.OpenJobs.open.Goals as goal

pub invariant_of-self : goal.invariant_of-self
invariant_of-self c = record {
  stand = still_stand_opened c.insert.result c.args.job c.args.self.now.jobs c.insert.new.self c.insert.ensures.updates c.insert.ensures.err
      c.args.self.now.stand c.requires;
}
