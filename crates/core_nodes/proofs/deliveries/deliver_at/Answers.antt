use Rattle.std.proofs.Common.{◌≡◌, Some, ap}
use Rattle.node_stages.specs.Caches.{DeliversAs}
use Rattle.node_stages.specs.Stages.{CacheDoes}
use Rattle.served_shards.specs.Served.{log_at}
use Rattle.tao_schema.specs.Schema.{types_of}
use Rattle.core_model.proofs.NamedNodes.{changes_at}
use Rattle.core_nodes.proofs.NodesOfNames.{holds_at, node_set}
use Rattle.core_nodes.proofs.deliveries.deliver_at.Goals as goal

pub deliver_marked-requires : goal.deliver_marked-requires
deliver_marked-requires g c =
    holds_at (λ x. log_at c.args.message.shard (g.C.Cache.node x).served ≡ Some c.args.message.note.log) c.args.caches.now c.args.name
    c.place_of-place.result c.index-caches-place.result c.place_of-place.ensures.first c.requires.log

pub returns : goal.returns
returns g c =
    let node = g.C.Cache.node in
    record {
      does = changes_at (CacheDoes node (DeliversAs node g.C.Cache.refills (types_of c.args.schema.now) c.args.message c.deliver_marked.result.dropped))
          c.args.caches.now c.args.name c.place_of-place.result c.index-caches-place.result c.deliver_marked.new.cache
          c.place_of-place.ensures.first c.deliver_marked.ensures.does;
      mark = record {
        cache = Some c.deliver_marked.new.cache;
        is = node_set c.args.caches.now c.args.name c.place_of-place.result c.index-caches-place.result c.deliver_marked.new.cache
            c.place_of-place.ensures.first;
        found_is = ap Some c.deliver_marked.ensures.mark;
      };
    }
