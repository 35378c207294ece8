use Rattle.std.specs.Prelude.{slice_index_or}
use Rattle.shard_tables.specs.StoreView.{Store}
use Rattle.core_nodes.proofs.StoreLemmas.{put_back, read_store}
use Rattle.core_nodes.proofs.RestartLemmas.{begins_for}
use Rattle.core_nodes.proofs.emptying.measure_at.Goals as goal

pub measure_store-requires : goal.measure_store-requires
measure_store-requires g c =
    let is = read_store g.K.Keeper.TELLS c.args.config.now (g.K.Keeper.state c.args.keepers.now).told c.args.stores.now c.requires.stores c.args.at
    c.store_place-place.result c.index-stores-place.result c.requires.here c.store_place-place.ensures in
    record { keeper = is.keeper }

pub returns : goal.returns
returns g c =
    let state = g.K.Keeper.state in
    let store : Store = slice_index_or c.args.stores.now c.store_place-place.result c.index-stores-place.result in
    let is = read_store g.K.Keeper.TELLS c.args.config.now (state c.args.keepers.now).told c.args.stores.now c.requires.stores c.args.at
    c.store_place-place.result c.index-stores-place.result c.requires.here c.store_place-place.ensures in
    record {
      begins = begins_for g.K.Keeper.TELLS c.args.config.now (state c.args.keepers.now).told c.args.stores.now c.args.at store is c.measure_store.result
          c.measure_store.ensures.low c.measure_store.ensures.note;
      same = put_back g.K.Keeper.TELLS c.args.config.now (state c.args.keepers.now).told c.args.stores.now c.requires.stores c.args.at
          c.store_place-place.result c.index-stores-place.result c.measure_store.new.store c.requires.here c.store_place-place.ensures
          c.measure_store.ensures.same;
      refused = c.measure_store.ensures.refused;
      tables = c.measure_store.ensures.tables;
      calls = c.measure_store.ensures.calls;
    }
