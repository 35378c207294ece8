use Rattle.keeper_map.proofs.Given.{entry_given}
use Rattle.keeper_map.proofs.store.StoreTable.entry.Goals as goal

pub returns-clause-given : goal.returns-clause-given
returns-clause-given c = rw (c.entry_of.ensures, c.as_slice.ensures)
    (entry_given c.args.self.now.log c.args.position c.args.self.now.sound c.args.self.now.short c.args.self.now.small)
