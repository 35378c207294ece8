use Rattle.node_stages.specs.Caches.{EvictsAs}
use Rattle.node_stages.specs.Stages.{CacheDoes}
use Rattle.core_model.proofs.NamedNodes.{changes_at}
use Rattle.core_nodes.proofs.evictions.evict_at.Goals as goal

pub returns : goal.returns
returns g c =
    let node = g.C.Cache.node in
    changes_at (CacheDoes node (EvictsAs node g.C.Cache.refills c.args.key c.evict_from.result)) c.args.caches.now c.args.name
    c.place_of-place.result c.index-caches-place.result c.evict_from.new.cache c.place_of-place.ensures.first c.evict_from.ensures
