use Rattle.std.proofs.Common.{subst, sym, ◌∙◌}
use Rattle.topology.specs.Config.{Settings}
use Rattle.core_model.specs.Stores.{AreStoresOf}
use Rattle.core_nodes.proofs.AskLemmas.{stores_here}
use Rattle.core_nodes.proofs.StreamReads.{finds_none, finds_some}
use Rattle.core_nodes.proofs.streams.next_at.Goals as goal

pub stored_entry-requires-clause-stores : goal.stored_entry-requires-clause-stores
stored_entry-requires-clause-stores g c =
    let state = g.K.Keeper.state in
    let s : Settings = c.args.config.now in
    subst (AreStoresOf g.K.Keeper.TELLS s (state c.stored_length.new.keepers).told) (sym c.stored_length.ensures.same)
    (stores_here g.K.Keeper.TELLS s (state c.args.keepers.now).told (state c.stored_length.new.keepers).told c.args.stores.now c.requires.stores
    c.stored_length.ensures.tables)

pub nothing_at-requires-clause-stores : goal.nothing_at-requires-clause-stores
nothing_at-requires-clause-stores g c =
    let state = g.K.Keeper.state in
    let s : Settings = c.args.config.now in
    let first = stores_here g.K.Keeper.TELLS s (state c.args.keepers.now).told (state c.stored_length.new.keepers).told c.args.stores.now c.requires.stores
    c.stored_length.ensures.tables in
    subst (AreStoresOf g.K.Keeper.TELLS s (state c.stored_entry.new.keepers).told) (sym (c.stored_entry.ensures.same ∙ c.stored_length.ensures.same))
    (stores_here g.K.Keeper.TELLS s (state c.stored_length.new.keepers).told (state c.stored_entry.new.keepers).told c.args.stores.now first
    c.stored_entry.ensures.tables)

pub returns-in-Some-clause-finds : goal.returns-in-Some-clause-finds
returns-in-Some-clause-finds g c =
    let state = g.K.Keeper.state in
    let s : Settings = c.args.config.now in
    finds_some g.K.Keeper.TELLS s (state c.args.keepers.now).told (state c.stored_length.new.keepers).told c.args.stores.now
    c.masters_are_regions.ensures c.requires.stores c.args.at c.requires.here c.stored_length.ensures.tables c.args.position c.in_ok-next.field-0
    c.unwrap_or-asked.result c.in_ok-next.ensures.length c.unwrap_or-asked.ensures c.in_ok-found.found c.in-Some.entry c.in_ok-found.ensures.entry c.in-Some.is

pub returns-in-None-clause-finds : goal.returns-in-None-clause-finds
returns-in-None-clause-finds g c =
    let state = g.K.Keeper.state in
    let s : Settings = c.args.config.now in
    finds_none g.K.Keeper.TELLS s (state c.args.keepers.now).told (state c.stored_length.new.keepers).told c.args.stores.now
    c.masters_are_regions.ensures c.requires.stores c.args.at c.requires.here c.stored_length.ensures.tables c.args.position c.in_ok-next.field-0
    c.unwrap_or-asked.result c.in_ok-next.ensures.length c.unwrap_or-asked.ensures c.in_ok-found.found (state c.stored_entry.new.keepers).told c.nothing_at.result c.in_ok-found.ensures.entry c.in-None.is
    c.stored_entry.ensures.tables c.nothing_at.ensures.nothing
