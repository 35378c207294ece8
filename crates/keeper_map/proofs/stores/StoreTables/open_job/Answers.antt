use Rattle.std.proofs.Common.{length, ◌≤◌, subst, sym}
use Rattle.keeper_map.proofs.StoreLemmas.{changes_there, found_at, is_there, told_there, written}
use Rattle.tao_keeper.specs.Table.{Table, after_job}
use Rattle.keeper_map.proofs.stores.StoreTables.open_job.Goals as goal

pub open_job-requires-clause-within : goal.open_job-requires-clause-within
open_job-requires-clause-within c =
    subst (λ (t : Table). c.args.job.position ≤ length t.log)
    (sym (told_there c.args.self.now.tables c.make_table.new.self.tables c.args.at c.in-Some.table.now c.in_ok-make_table.ensures.stays
    (found_at c.args.at c.key_of.result c.in-Some.table.now c.make_table.new.self.tables c.key_of.ensures c.in-Some.ensures.value)))
    c.requires.within

pub returns : goal.returns
returns c =
    changes_there c.open_job.result c.args.self.now.tables c.make_table.new.self.tables
    (c.get_mut.follows.lender c.open_job.new.self) c.args.at c.in-Some.table.now c.open_job.new.self
    (λ t. after_job t c.args.job) c.in_ok-make_table.ensures.stays
    (found_at c.args.at c.key_of.result c.in-Some.table.now c.make_table.new.self.tables c.key_of.ensures c.in-Some.ensures.value)
    (written c.args.at c.key_of.result c.open_job.new.self c.make_table.new.self.tables (c.get_mut.follows.lender c.open_job.new.self) c.key_of.ensures
    ((c.get_mut.follows.holds c.open_job.new.self).3 (is_there c.key_of.result c.in-Some.table.now c.make_table.new.self.tables c.in-Some.ensures.value)))
    c.open_job.ensures
