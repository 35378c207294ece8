use Rattle.std.proofs.Common.{◌≡◌, ◌≤◌, ◌-◌, ◌^◌, Ok}
use Rattle.core_steps.specs.core_nodes.Streams.{next_position}
use Rattle.core_steps.specs.Posting.{PostsOn}
use Rattle.core_steps.specs.World.{world}
use Rattle.core_repairs.specs.Streams.{StreamsFrom}
use Rattle.graph_model.specs.Told.{WhereTold}
use Rattle.core_repairs.proofs.streams.stream_to_end.Given as goal

-- some steps were made, and the store takes the last position next, or one behind it
abbrev pub invariant-loop-streamed : goal.invariant-loop-streamed
invariant-loop-streamed g l =
    let tells = g.K.Keeper.TELLS in
    let keepers = g.K.Keeper.state in
    let shown = g.L.Link.shown in
    let start = world l.fn.nodes (keepers l.fn.keepers) (shown l.fn.link) in
    let now = world l.nodes (keepers l.keepers) (shown l.link) in
    record {
      runs : StreamsFrom tells l.config l.at l.at (Ok tt) start now;
      next : WhereTold tells (l.last ≤ next_position (keepers l.keepers).told l.at);
      followers : l.nodes.fleet.followers ≡ l.fn.nodes.fleet.followers;
      on : PostsOn tells l.config start now;
    }

abbrev pub decreases-loop-streamed : goal.decreases-loop-streamed
decreases-loop-streamed g l = 2 ^ 64 - l.last
