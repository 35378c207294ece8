use Rattle.std.proofs.Common.{◌≡◌}
use Rattle.core_model.specs.Stores.{region_store}
use Rattle.core_steps.specs.Posting.{PostsOn}
use Rattle.core_steps.specs.World.{world}
use Rattle.core_repairs.specs.Streams.{StreamsTill}
use Rattle.core_repairs.proofs.streams.run_streams.Given as goal

-- all streams into the stores of the regions so far were moved to their ends
abbrev pub invariant-loop-region : goal.invariant-loop-region
invariant-loop-region g l =
    let tells = g.K.Keeper.TELLS in
    let keepers = g.K.Keeper.state in
    let shown = g.L.Link.shown in
    let start = world l.fn.nodes (keepers l.fn.keepers) (shown l.fn.link) in
    let now = world l.nodes (keepers l.keepers) (shown l.link) in
    record {
      runs : StreamsTill tells l.config (region_store l.region 0) start now;
      followers : l.nodes.fleet.followers ≡ l.fn.nodes.fleet.followers;
      on : PostsOn tells l.config start now;
    }
