use Rattle.std.proofs.Common.{◌≡◌, Ok}
use Rattle.core_model.specs.Stores.{region_store}
use Rattle.core_steps.specs.Posting.{PostsOn}
use Rattle.core_steps.specs.World.{world}
use Rattle.core_repairs.specs.Streams.{StreamsFrom}
use Rattle.core_repairs.proofs.streams.stream_region.Given as goal

-- the streams into the region's stores of the shards so far were moved to their ends
abbrev pub invariant-loop-shard : goal.invariant-loop-shard
invariant-loop-shard g l =
    let tells = g.K.Keeper.TELLS in
    let keepers = g.K.Keeper.state in
    let shown = g.L.Link.shown in
    let start = world l.fn.nodes (keepers l.fn.keepers) (shown l.fn.link) in
    let now = world l.nodes (keepers l.keepers) (shown l.link) in
    record {
      runs : StreamsFrom tells l.config (region_store l.region 0) (region_store l.region l.shard) (Ok tt) start now;
      followers : l.nodes.fleet.followers ≡ l.fn.nodes.fleet.followers;
      on : PostsOn tells l.config start now;
    }
