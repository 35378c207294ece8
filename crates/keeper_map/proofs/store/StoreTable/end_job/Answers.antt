use Rattle.std.proofs.Common.{ap, ◌∙◌}
use Rattle.keeper_map.proofs.Grown.{ended_of_entries}
use Rattle.keeper_map.specs.OpenJobs.{jobs_of}
use Rattle.keeper_map.proofs.store.StoreTable.end_job.Goals as goal

pub invariant_of-self-clause-of_entries : goal.invariant_of-self-clause-of_entries
invariant_of-self-clause-of_entries c = λ position past.
    ap (λ j. j position) c.end.ensures ∙ ended_of_entries (jobs_of c.args.self.now.jobs) c.args.position position (c.args.self.now.of_entries position past)
