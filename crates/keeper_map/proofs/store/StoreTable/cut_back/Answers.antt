use Rattle.std.specs.Prelude.{is_ok}
use Rattle.keeper_map.proofs.CutBack.{back_all, back_cut_within, back_of_entries, back_short, back_sound}
use Rattle.keeper_map.specs.OpenJobs.{jobs_of}
use Rattle.tao_keeper.specs.Given.{HaveSmallStamps}
use Rattle.tao_keeper.specs.declared.keeper.TheConstants.{MOST_ENTRIES}
use Rattle.keeper_map.proofs.store.StoreTable.cut_back.Goals as goal

pub invariant_of-self-clause-sound : goal.invariant_of-self-clause-sound
invariant_of-self-clause-sound c =
    back_sound (is_ok c.lose_both.result) c.args.self.now.log _ c.args.len c.lose_both.ensures.log c.args.self.now.sound

pub invariant_of-self-clause-short : goal.invariant_of-self-clause-short
invariant_of-self-clause-short c =
    back_short (is_ok c.lose_both.result) c.args.self.now.log _ c.args.len MOST_ENTRIES c.lose_both.ensures.log c.args.self.now.short

pub invariant_of-self-clause-small : goal.invariant_of-self-clause-small
invariant_of-self-clause-small c =
    back_all (λ e. HaveSmallStamps e.touches) (is_ok c.lose_both.result) c.args.self.now.log _ c.args.len c.lose_both.ensures.log c.args.self.now.small

pub invariant_of-self-clause-of_entries : goal.invariant_of-self-clause-of_entries
invariant_of-self-clause-of_entries c =
    back_of_entries (is_ok c.lose_both.result) c.args.self.now.log _ c.args.len (jobs_of c.args.self.now.jobs) _ c.lose_both.ensures.log
    c.lose_both.ensures.jobs c.requires.within c.args.self.now.of_entries

pub invariant_of-self-clause-cut_within : goal.invariant_of-self-clause-cut_within
invariant_of-self-clause-cut_within c =
    back_cut_within (is_ok c.lose_both.result) c.args.self.now.log _ c.args.len c.args.self.now.cut c.lose_both.ensures.log c.requires.least
    c.requires.within
