use Rattle.std.specs.Prelude.{is_ok}
use Rattle.tao_keeper.specs.Given.{HaveSmallStamps}
use Rattle.keeper_map.proofs.Grown.{still_all, still_of_entries, still_sound, last_of_all}
use Rattle.keeper_map.specs.OpenJobs.{jobs_of}
use Rattle.keeper_map.proofs.store.StoreTable.add.Goals as goal

pub push_both-requires-clause-last : goal.push_both-requires-clause-last
push_both-requires-clause-last c =
    last_of_all c.args.self.now.log c.args.entry (jobs_of c.args.self.now.jobs) c.args.job c.requires.follows c.args.self.now.of_entries c.requires.job

pub invariant_of-self-clause-sound : goal.invariant_of-self-clause-sound
invariant_of-self-clause-sound c =
    still_sound (is_ok c.push_both.result) c.args.self.now.log _ c.args.entry c.push_both.ensures.log c.args.self.now.sound c.requires.follows

pub invariant_of-self-clause-small : goal.invariant_of-self-clause-small
invariant_of-self-clause-small c =
    still_all (λ e. HaveSmallStamps e.touches) (is_ok c.push_both.result) c.args.self.now.log _ c.args.entry c.push_both.ensures.log c.args.self.now.small
    c.requires.stamps

pub invariant_of-self-clause-of_entries : goal.invariant_of-self-clause-of_entries
invariant_of-self-clause-of_entries c =
    still_of_entries (is_ok c.push_both.result) c.args.self.now.log _ c.args.entry
    (jobs_of c.args.self.now.jobs) _ c.args.job c.push_both.ensures.log c.push_both.ensures.jobs
    c.requires.follows c.args.self.now.of_entries c.requires.job
