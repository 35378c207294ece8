use Rattle.std.specs.Prelude.{slice_index_or}
use Rattle.shard_tables.specs.StoreView.{Store}
use Rattle.topology.specs.Config.{Settings}
use Rattle.core_nodes.proofs.StoreLemmas.{IsReadStore, read_stands, read_store}
use Rattle.core_nodes.proofs.StreamLemmas.{TakesIt, one_log, role_read, took_at}
use Rattle.core_nodes.proofs.streams.take_at.Goals as goal

pub apply-requires : goal.apply-requires
apply-requires g c =
    let tells = g.K.Keeper.TELLS in
    let s : Settings = c.args.config.now in
    let tables = (g.K.Keeper.state c.args.keepers.now).told in
    let xs = c.args.stores.now in
    let store : Store = slice_index_or xs c.store_place-place.result c.index-stores-place.result in
    let is : IsReadStore tells s tables xs c.args.at store =
    read_store tells s tables xs c.requires.stores c.args.at c.store_place-place.result c.index-stores-place.result c.requires.slave.here
    c.store_place-place.ensures in
    record {
      slave = role_read tells s tables xs c.args.at store is c.requires.slave;
      keeper = is.keeper;
      one_log = one_log tells s tables xs c.args.at store is c.requires.slave c.args.note c.requires.seen.seen;
      stamps = c.requires.stamps;
      stands = c.requires.seen.stands;
    }

pub returns : goal.returns
returns g c =
    let tells = g.K.Keeper.TELLS in
    let s : Settings = c.args.config.now in
    let old = g.K.Keeper.state c.args.keepers.now in
    let new = g.K.Keeper.state c.apply.new.keeper in
    let xs = c.args.stores.now in
    let place = c.store_place-place.result in
    let store : Store = slice_index_or xs place c.index-stores-place.result in
    let is : IsReadStore tells s old.told xs c.args.at store =
    read_store tells s old.told xs c.requires.stores c.args.at place c.index-stores-place.result c.requires.slave.here c.store_place-place.ensures in
    let stands = read_stands tells s old.told xs c.requires.stores c.args.at place c.index-stores-place.result c.requires.slave.here
    c.store_place-place.ensures in
    let takes : TakesIt tells old new c.args.entry.now c.args.note c.apply.result store c.apply.new.store = record {
      is = c.apply.ensures.store;
      grows = c.apply.ensures.grows;
      follows = c.apply.ensures.follows;
      keeper = c.apply.ensures.keeper;
      gains = c.apply.ensures.tables;
      verdict = c.apply.ensures.verdict;
      refused = c.apply.ensures.refused;
      calls = c.apply.ensures.calls;
    } in
    let took = took_at tells s old new xs c.args.at place store is c.requires.slave c.args.entry.now c.args.note c.apply.result c.apply.new.store stands takes
    c.streamed_as.result c.streamed_as.ensures c.requires.stores c.requires.seen in
    record {
      streams = took.streams;
      pens = took.pens;
      rests = took.rests;
      stores = took.stores;
      grows = took.grows;
      refused = took.refused;
      calls = took.calls;
    }
