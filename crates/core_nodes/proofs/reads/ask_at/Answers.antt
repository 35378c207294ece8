use Rattle.std.proofs.Common.{◌≡◌, Some, slice_index_or, ap, ◌∙◌}
use Rattle.cache_items.specs.Node.{Node}
use Rattle.served_shards.specs.Served.{log_at}
use Rattle.shard_tables.specs.StoreView.{Store}
use Rattle.tao_base.specs.Queries.{query_shard}
use Rattle.tao_schema.specs.Schema.{types_of}
use Rattle.core_model.specs.Fleet.{region_of}
use Rattle.core_model.specs.Pens.{store_in}
use Rattle.core_model.specs.Reads.{store_calls, wanted}
use Rattle.core_model.specs.Stores.{region_store}
use Rattle.core_nodes.proofs.AskedAt.{answers_at}
use Rattle.core_model.proofs.NamedNodes.{rests_err}
use Rattle.core_nodes.proofs.NodesOfNames.{holds_at}
use Rattle.core_nodes.proofs.StoreLemmas.{place_of, put_back, read_store}
use Rattle.core_nodes.proofs.reads.ask_at.Goals as goal

pub ask_leader-requires-clause-log : goal.ask_leader-requires-clause-log
ask_leader-requires-clause-log g c =
    let at = region_store (region_of c.args.name) (query_shard c.args.read.now.query.now) in
    let place = place_of c.args.around.now.config.now (region_of c.args.name) _ _ _ _ c.store_place-place.ensures
    (c.region_store-at.ensures ∙ ap (λ r. region_store r c.shard.result) c.region_of.ensures) c.shard.ensures in
    let store : Store = slice_index_or c.args.stores.now c.store_place-place.result c.index-stores-place.result in
    let is = read_store g.K.Keeper.TELLS c.args.around.now.config.now (g.K.Keeper.state c.args.keepers.now).told c.args.stores.now c.requires.stores at
    c.store_place-place.result c.index-stores-place.result c.requires.here place in
    holds_at (λ (node : Node). (x : Store) → store_in c.args.stores.now at ≡ Some x
    → log_at (query_shard c.args.read.now.query.now) node.served ≡ Some x.view.log) c.args.leaders.now
    c.args.name c.named_place-spot.result c.index-leaders-spot.result c.named_place-spot.ensures c.requires.logs store is.found.found

pub ask_leader-requires-clause-keeper : goal.ask_leader-requires-clause-keeper
ask_leader-requires-clause-keeper g c =
    let at = region_store (region_of c.args.name) (query_shard c.args.read.now.query.now) in
    let place = place_of c.args.around.now.config.now (region_of c.args.name) _ _ _ _ c.store_place-place.ensures
    (c.region_store-at.ensures ∙ ap (λ r. region_store r c.shard.result) c.region_of.ensures) c.shard.ensures in
    (read_store g.K.Keeper.TELLS c.args.around.now.config.now (g.K.Keeper.state c.args.keepers.now).told c.args.stores.now c.requires.stores at
    c.store_place-place.result c.index-stores-place.result c.requires.here place).keeper

pub returns-clause-given : goal.returns-clause-given
returns-clause-given g c =
    let state = g.K.Keeper.state in
    let at = region_store (region_of c.args.name) (query_shard c.args.read.now.query.now) in
    let place = place_of c.args.around.now.config.now (region_of c.args.name) _ _ _ _ c.store_place-place.ensures
    (c.region_store-at.ensures ∙ ap (λ r. region_store r c.shard.result) c.region_of.ensures) c.shard.ensures in
    let store : Store = slice_index_or c.args.stores.now c.store_place-place.result c.index-stores-place.result in
    let is = read_store g.K.Keeper.TELLS c.args.around.now.config.now (state c.args.keepers.now).told c.args.stores.now c.requires.stores at
    c.store_place-place.result c.index-stores-place.result c.requires.here place in
    answers_at (types_of c.args.around.now.config.now.schema) (wanted c.args.read.now.query.now c.args.read.now.floor)
    (store_calls (region_of c.args.name) c.args.stores.now (state c.args.keepers.now) (state c.ask_leader.new.keepers)) c.args.leaders.now c.args.name
    c.named_place-spot.result c.index-leaders-spot.result c.ask_leader.new.leader store c.ask_leader.result c.named_place-spot.ensures is.found.found
    c.ask_leader.ensures.given

pub returns-clause-err : goal.returns-clause-err
returns-clause-err g c =
    rests_err c.args.leaders.now c.args.name c.named_place-spot.result c.index-leaders-spot.result c.ask_leader.new.leader c.ask_leader.result
    c.named_place-spot.ensures c.ask_leader.ensures.err

pub returns-clause-same : goal.returns-clause-same
returns-clause-same g c =
    let at = region_store (region_of c.args.name) (query_shard c.args.read.now.query.now) in
    let place = place_of c.args.around.now.config.now (region_of c.args.name) _ _ _ _ c.store_place-place.ensures
    (c.region_store-at.ensures ∙ ap (λ r. region_store r c.shard.result) c.region_of.ensures) c.shard.ensures in
    put_back g.K.Keeper.TELLS c.args.around.now.config.now (g.K.Keeper.state c.args.keepers.now).told c.args.stores.now c.requires.stores at
    c.store_place-place.result c.index-stores-place.result c.ask_leader.new.store c.requires.here place c.ask_leader.ensures.same
