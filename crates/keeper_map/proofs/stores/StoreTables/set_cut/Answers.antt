use Rattle.std.proofs.Common.{refl, subst, sym}
use Rattle.keeper_map.proofs.StoreLemmas.{becomes_there, found_at, is_there, told_there, written}
use Rattle.tao_keeper.specs.Table.{ReachesLive, after_cut}
use Rattle.keeper_map.proofs.stores.StoreTables.set_cut.Goals as goal

pub set_cut-requires : goal.set_cut-requires
set_cut-requires c =
    subst (λ t. ReachesLive t c.args.upto)
    (sym (told_there c.args.self.now.tables c.args.self.now.tables c.args.at c.in-Some.table.now (λ name. refl)
    (found_at c.args.at c.key_of.result c.in-Some.table.now c.args.self.now.tables c.key_of.ensures c.in-Some.ensures.value)))
    c.requires

pub returns-in-Some : goal.returns-in-Some
returns-in-Some c =
    becomes_there c.args.self.now.tables c.args.self.now.tables (c.get_mut.follows.lender c.set_cut.new.self) c.args.at c.in-Some.table.now
    c.set_cut.new.self (λ t. after_cut t c.args.upto) (λ name. refl)
    (found_at c.args.at c.key_of.result c.in-Some.table.now c.args.self.now.tables c.key_of.ensures c.in-Some.ensures.value)
    (written c.args.at c.key_of.result c.set_cut.new.self c.args.self.now.tables (c.get_mut.follows.lender c.set_cut.new.self) c.key_of.ensures
    ((c.get_mut.follows.holds c.set_cut.new.self).3 (is_there c.key_of.result c.in-Some.table.now c.args.self.now.tables c.in-Some.ensures.value)))
    c.set_cut.ensures
