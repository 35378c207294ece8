use Rattle.keeper_map.proofs.StoreLemmas.{first_stays, written}
use Rattle.keeper_map.proofs.stores.StoreTables.make_table.Goals as goal

pub returns-in_ok-insert-in-None-clause-stays : goal.returns-in_ok-insert-in-None-clause-stays
returns-in_ok-insert-in-None-clause-stays c =
    first_stays c.args.at c.new.result c.args.self.now.tables c.insert.new.self
    (written c.args.at c.key_of.result c.new.result c.args.self.now.tables c.insert.new.self c.key_of.ensures c.in_ok-insert-in-None.ensures.updates)
    c.in-None.ensures c.new.ensures
