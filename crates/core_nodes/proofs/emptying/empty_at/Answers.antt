use Rattle.node_stages.specs.Caches.{IsEmptiedAs}
use Rattle.node_stages.specs.Stages.{CacheDoes}
use Rattle.served_shards.specs.Begun.{AreNotesOf}
use Rattle.core_model.proofs.NamedNodes.{changes_at}
use Rattle.core_nodes.proofs.NodesOfNames.{holds_at}
use Rattle.core_nodes.proofs.emptying.empty_at.Goals as goal

pub empty_out-requires-clause-logs : goal.empty_out-requires-clause-logs
empty_out-requires-clause-logs g c =
    holds_at (λ x. AreNotesOf (g.C.Cache.node x).served c.args.notes.items) c.args.caches.now c.args.name c.place_of-place.result
    c.index-caches-place.result c.place_of-place.ensures.first c.requires.logs

pub returns : goal.returns
returns g c =
    let node = g.C.Cache.node in
    changes_at (CacheDoes node (IsEmptiedAs node g.C.Cache.refills c.args.lows.now c.args.notes.items)) c.args.caches.now c.args.name
    c.place_of-place.result c.index-caches-place.result c.empty_out.new.cache c.place_of-place.ensures.first c.empty_out.ensures
