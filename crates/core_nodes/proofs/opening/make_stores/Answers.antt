use Rattle.core_nodes.proofs.OrderedStores.{ordered, ordered_follow, ordered_seen}
use Rattle.core_nodes.proofs.opening.make_stores.Goals as goal

pub returns-in-Ok-clause-stores : goal.returns-in-Ok-clause-stores
returns-in-Ok-clause-stores g c =
    ordered g.K.Keeper.TELLS c.args.config.now (g.K.Keeper.state c.make_shards.new.keepers).told c.masters_are_regions.ensures c.in-Ok.stores.items
    c.in_order.result.items c.in-Ok.ensures.made c.in_order.ensures.moved c.in_order.ensures.sorted

pub returns-in-Ok-clause-seen : goal.returns-in-Ok-clause-seen
returns-in-Ok-clause-seen g c =
    ordered_seen g.K.Keeper.TELLS c.args.config.now (g.K.Keeper.state c.make_shards.new.keepers).told c.masters_are_regions.ensures c.in-Ok.stores.items
    c.in_order.result.items c.in-Ok.ensures.made c.in_order.ensures.moved c.in_order.ensures.sorted

pub returns-in-Ok-clause-follow : goal.returns-in-Ok-clause-follow
returns-in-Ok-clause-follow g c =
    ordered_follow g.K.Keeper.TELLS c.args.config.now (g.K.Keeper.state c.make_shards.new.keepers).told c.masters_are_regions.ensures c.in-Ok.stores.items
    c.in_order.result.items c.in-Ok.ensures.made c.in_order.ensures.moved c.in_order.ensures.sorted
