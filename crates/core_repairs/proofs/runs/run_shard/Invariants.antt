use Rattle.std.proofs.Common.{◌-◌, ◌^◌}
use Rattle.core_steps.specs.Posting.{PostsOn}
use Rattle.core_steps.specs.World.{world}
use Rattle.core_repairs.specs.Repairs.{HasNoneUpTo, RunsMore}
use Rattle.core_repairs.proofs.RunLemmas.{ChangesStoresAlone}
use Rattle.graph_model.specs.Told.{WhereTold}
use Rattle.core_repairs.proofs.runs.run_shard.Given as goal

-- the jobs so far were run, and none is left up to the last one
abbrev pub invariant-loop-found : goal.invariant-loop-found
invariant-loop-found g l =
    let tells = g.K.Keeper.TELLS in
    let keepers = g.K.Keeper.state in
    let shown = g.L.Link.shown in
    let start = world l.fn.nodes (keepers l.fn.keepers) (shown l.fn.link) in
    let now = world l.nodes (keepers l.keepers) (shown l.link) in
    record {
      runs : RunsMore tells l.config l.shard start now;
      none : WhereTold tells (HasNoneUpTo l.config (keepers l.keepers).told l.shard l.last);
      rest : ChangesStoresAlone l.fn.nodes.fleet l.nodes.fleet;
      on : PostsOn tells l.config start now;
    }

abbrev pub decreases-loop-found : goal.decreases-loop-found
decreases-loop-found g l = 2 ^ 64 - l.last
