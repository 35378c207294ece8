use Rattle.std.proofs.Common.{ap, subst}
use Rattle.std.specs.Prelude.{slice_index_or}
use Rattle.shard_tables.specs.StoreView.{Store}
use Rattle.tao_base.specs.Queries.{query_shard}
use Rattle.tao_schema.specs.Schema.{types_of}
use Rattle.tao_schema.specs.declared.schema.Schema.{Schema}
use Rattle.topology.specs.Config.{Settings}
use Rattle.core_model.specs.Reads.{store_calls}
use Rattle.core_model.specs.Stores.{region_store}
use Rattle.core_nodes.proofs.MasterLemmas.{ReadOfStore, gives_at_floors, store_reads}
use Rattle.core_nodes.proofs.StoreLemmas.{place_of, put_back, read_store}
use Rattle.core_nodes.proofs.stores.read_at.Goals as goal

pub read-requires : goal.read-requires
read-requires g c =
    let at = region_store c.args.region (query_shard c.args.query.now) in
    let place = place_of c.args.config.now c.args.region _ _ _ _ c.store_place-place.ensures c.region_store-at.ensures c.shard.ensures in
    let is = read_store g.K.Keeper.TELLS c.args.config.now (g.K.Keeper.state c.args.keepers.now).told c.args.stores.now c.requires.stores at
    c.store_place-place.result c.index-stores-place.result c.requires.here place in
    record { keeper = is.keeper }

pub returns : goal.returns
returns g c =
    let state = g.K.Keeper.state in
    let at = region_store c.args.region (query_shard c.args.query.now) in
    let place = place_of c.args.config.now c.args.region _ _ _ _ c.store_place-place.ensures c.region_store-at.ensures c.shard.ensures in
    let store : Store = slice_index_or c.args.stores.now c.store_place-place.result c.index-stores-place.result in
    let is = read_store g.K.Keeper.TELLS c.args.config.now (state c.args.keepers.now).told c.args.stores.now c.requires.stores at
    c.store_place-place.result c.index-stores-place.result c.requires.here place in
    let calls = store_calls c.args.region c.args.stores.now (state c.args.keepers.now) (state c.read.new.keeper) in
    let Read : Schema → Type 0 = λ k. ReadOfStore g.K.Keeper.TELLS (types_of k) c.args.query.now store (state c.args.keepers.now) c.read.result in
    let was : Read c.config.inside.schema =
    record { found = c.read.ensures.found; fits = c.read.ensures.fits; note = c.read.ensures.note } in
    let read = subst Read (ap (λ (s : Settings). s.schema) c.config.view_is) was in
    record {
      reads = store_reads g.K.Keeper.TELLS c.args.config.now calls c.args.query.now store is c.read.result read c.read.ensures.asked;
      given = gives_at_floors g.K.Keeper.TELLS c.args.config.now calls c.args.query.now store is c.read.result read;
      same = put_back g.K.Keeper.TELLS c.args.config.now (state c.args.keepers.now).told c.args.stores.now c.requires.stores at
          c.store_place-place.result c.index-stores-place.result c.read.new.self c.requires.here place c.read.ensures.same;
      refused = c.read.ensures.refused;
      tables = c.read.ensures.tables;
      logs = c.read.ensures.logs;
      calls = c.read.ensures.calls;
    }
