use Rattle.std.proofs.Common.{subst}
use Rattle.cache_node.specs.cache_items.Delivered.{dropped_lists}
use Rattle.tao_schema.specs.Schema.{types_of}
use Rattle.follower_cache.proofs.Queued.{some_queued}
use Rattle.follower_cache.specs.Refills.{Queues}
use Rattle.follower_cache.specs.Seen.{FollowerState}
use Rattle.follower_cache.proofs.follower.Follower.deliver.Goals as goal

pub returns-clause-refills : goal.returns-clause-refills
returns-clause-refills c =
    subst (λ (f : FollowerState). Queues (types_of c.args.schema.now) (dropped_lists f.node.items c.args.message.keys) f.refills c.queue_all.new.self)
    c.self.view_is
    (some_queued (types_of c.args.schema.now) c.deliver-delivered.result.lists
    (dropped_lists c.self.inside.node.items c.args.message.keys) c.self.inside.refills c.queue_all.new.self c.deliver-delivered.ensures.lists
    (subst (λ rows. Queues (types_of c.args.schema.now) rows c.self.inside.refills c.queue_all.new.self) c.as_slice.ensures c.queue_all.ensures))
