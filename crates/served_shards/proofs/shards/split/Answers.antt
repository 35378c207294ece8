use Rattle.std.proofs.Common.{sym}
use Rattle.served_shards.proofs.Places.{served_none, split_views}
use Rattle.served_shards.proofs.shards.split.Goals as goal

pub unreachable-requires : goal.unreachable-requires
unreachable-requires c = let none = rw (served_none c.args.shard c.args.shards.now (sym c.in-None.ensures)) at c.requires in cc

pub returns-clause-view : goal.returns-clause-view
returns-clause-view c = split_views c.args.shard c.args.shards.now c.in-Some.place c.index-shards-place.result c.split.result
    (sym c.in-Some.ensures) c.split.ensures.view
