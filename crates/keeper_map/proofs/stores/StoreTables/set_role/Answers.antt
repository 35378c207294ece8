use Rattle.std.proofs.Common.{subst}
use Rattle.keeper_map.proofs.StoreLemmas.{becomes_there, found_at, is_there, written}
use Rattle.keeper_map.specs.Store.{tables_of}
use Rattle.tao_keeper.specs.Table.{Becomes, after_role}
use Rattle.keeper_map.proofs.stores.StoreTables.set_role.Goals as goal

pub returns : goal.returns
returns c =
    let at = c.first_store-at.result in
    subst (λ s. Becomes (tables_of c.args.self.now.tables) (tables_of (c.get_mut.follows.lender c.set_role.new.self)) s
    (after_role (tables_of c.args.self.now.tables s) c.args.epoch c.args.region)) c.first_store-at.ensures
    (becomes_there c.args.self.now.tables c.make_table.new.self.tables (c.get_mut.follows.lender c.set_role.new.self) at c.in-Some.table.now
    c.set_role.new.self (λ t. after_role t c.args.epoch c.args.region) c.in_ok-make_table.ensures.stays
    (found_at at c.key_of.result c.in-Some.table.now c.make_table.new.self.tables c.key_of.ensures c.in-Some.ensures.value)
    (written at c.key_of.result c.set_role.new.self c.make_table.new.self.tables (c.get_mut.follows.lender c.set_role.new.self) c.key_of.ensures
    ((c.get_mut.follows.holds c.set_role.new.self).3 (is_there c.key_of.result c.in-Some.table.now c.make_table.new.self.tables c.in-Some.ensures.value)))
    c.set_role.ensures)
