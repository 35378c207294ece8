use Rattle.std.proofs.Common.{subst, sym}
use Rattle.keeper_map.proofs.StoreLemmas.{changes_there, found_at, is_there, told_there, written}
use Rattle.tao_keeper.specs.Table.{ReachesLive, after_cut_back}
use Rattle.keeper_map.proofs.stores.StoreTables.cut_back.Goals as goal

pub cut_back-requires : goal.cut_back-requires
cut_back-requires c =
    subst (λ t. ReachesLive t c.args.len)
    (sym (told_there c.args.self.now.tables c.make_table.new.self.tables c.args.at c.in-Some.table.now c.in_ok-make_table.ensures.stays
    (found_at c.args.at c.key_of.result c.in-Some.table.now c.make_table.new.self.tables c.key_of.ensures c.in-Some.ensures.value)))
    c.requires

pub returns : goal.returns
returns c =
    changes_there c.cut_back.result c.args.self.now.tables c.make_table.new.self.tables
    (c.get_mut.follows.lender c.cut_back.new.self) c.args.at c.in-Some.table.now c.cut_back.new.self
    (λ t. after_cut_back t c.args.len c.args.row) c.in_ok-make_table.ensures.stays
    (found_at c.args.at c.key_of.result c.in-Some.table.now c.make_table.new.self.tables c.key_of.ensures c.in-Some.ensures.value)
    (written c.args.at c.key_of.result c.cut_back.new.self c.make_table.new.self.tables (c.get_mut.follows.lender c.cut_back.new.self) c.key_of.ensures
    ((c.get_mut.follows.holds c.cut_back.new.self).3 (is_there c.key_of.result c.in-Some.table.now c.make_table.new.self.tables c.in-Some.ensures.value)))
    c.cut_back.ensures
