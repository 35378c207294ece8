use Rattle.std.proofs.Common.{◌<◌, length, sym, subst}
use Rattle.keeper_map.proofs.StoreLemmas.{changes_there, found_at, is_there, told_there, written}
use Rattle.tao_keeper.specs.Table.{Table, after_commit}
use Rattle.tao_keeper.specs.declared.keeper.TheConstants.{MOST_ENTRIES}
use Rattle.graph_model.specs.Soundness.{CanFollow}
use Rattle.keeper_map.proofs.stores.StoreTables.add.Goals as goal

pub add-requires-clause-room : goal.add-requires-clause-room
add-requires-clause-room c =
    subst (λ (t : Table). length t.log < MOST_ENTRIES)
    (sym (told_there c.args.self.now.tables c.make_table.new.self.tables c.args.at c.in-Some.table.now c.in_ok-make_table.ensures.stays
    (found_at c.args.at c.key_of.result c.in-Some.table.now c.make_table.new.self.tables c.key_of.ensures c.in-Some.ensures.value)))
    c.requires.room

pub add-requires-clause-follows : goal.add-requires-clause-follows
add-requires-clause-follows c =
    subst (λ (t : Table). CanFollow t.log c.args.entry)
    (sym (told_there c.args.self.now.tables c.make_table.new.self.tables c.args.at c.in-Some.table.now c.in_ok-make_table.ensures.stays
    (found_at c.args.at c.key_of.result c.in-Some.table.now c.make_table.new.self.tables c.key_of.ensures c.in-Some.ensures.value)))
    c.requires.follows

pub returns : goal.returns
returns c =
    changes_there c.add.result c.args.self.now.tables c.make_table.new.self.tables
    (c.get_mut.follows.lender c.add.new.self) c.args.at c.in-Some.table.now c.add.new.self
    (λ t. after_commit t c.args.entry c.args.job) c.in_ok-make_table.ensures.stays
    (found_at c.args.at c.key_of.result c.in-Some.table.now c.make_table.new.self.tables c.key_of.ensures c.in-Some.ensures.value)
    (written c.args.at c.key_of.result c.add.new.self c.make_table.new.self.tables (c.get_mut.follows.lender c.add.new.self) c.key_of.ensures
    ((c.get_mut.follows.holds c.add.new.self).3 (is_there c.key_of.result c.in-Some.table.now c.make_table.new.self.tables c.in-Some.ensures.value)))
    c.add.ensures
