use Rattle.std.specs.Prelude.{IfOk}
use Rattle.std.proofs.Common.{subst}
use Rattle.keeper_map.proofs.StoreLemmas.{changes_there, found_at, is_there, told_there, written}
use Rattle.tao_keeper.specs.Table.{OpensAs, Table, after_open}
use Rattle.keeper_map.proofs.stores.StoreTables.open.Goals as goal

pub returns-clause-answer : goal.returns-clause-answer
returns-clause-answer c =
    subst (λ (t : Table). IfOk c.open.result (λ opened. OpensAs opened t c.args.line.now))
    (told_there c.args.self.now.tables c.make_table.new.self.tables c.args.at c.in-Some.table.now c.in_ok-make_table.ensures.stays
    (found_at c.args.at c.key_of.result c.in-Some.table.now c.make_table.new.self.tables c.key_of.ensures c.in-Some.ensures.value))
    c.open.ensures.answer

pub returns-clause-changes : goal.returns-clause-changes
returns-clause-changes c =
    changes_there c.open.result c.args.self.now.tables c.make_table.new.self.tables
    (c.get_mut.follows.lender c.open.new.self) c.args.at c.in-Some.table.now c.open.new.self
    (λ t. after_open t c.args.line.now) c.in_ok-make_table.ensures.stays
    (found_at c.args.at c.key_of.result c.in-Some.table.now c.make_table.new.self.tables c.key_of.ensures c.in-Some.ensures.value)
    (written c.args.at c.key_of.result c.open.new.self c.make_table.new.self.tables (c.get_mut.follows.lender c.open.new.self) c.key_of.ensures
    ((c.get_mut.follows.holds c.open.new.self).3 (is_there c.key_of.result c.in-Some.table.now c.make_table.new.self.tables c.in-Some.ensures.value)))
    c.open.ensures.table
