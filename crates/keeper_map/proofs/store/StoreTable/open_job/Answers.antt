use Rattle.std.specs.Prelude.{is_ok}
use Rattle.keeper_map.proofs.Grown.{opened_of_entries}
use Rattle.keeper_map.specs.OpenJobs.{jobs_of}
use Rattle.keeper_map.proofs.store.StoreTable.open_job.Goals as goal

pub invariant_of-self-clause-of_entries : goal.invariant_of-self-clause-of_entries
invariant_of-self-clause-of_entries c =
    opened_of_entries (is_ok c.open.result) c.args.self.now.log (jobs_of c.args.self.now.jobs) (jobs_of c.open.new.self) c.args.job c.open.ensures
    c.requires.within c.args.self.now.of_entries
