use Rattle.core_steps.specs.Posting.{PostsOn}
use Rattle.core_steps.specs.World.{world}
use Rattle.core_repairs.specs.Repairs.{RunsTo}
use Rattle.core_repairs.proofs.RunLemmas.{ChangesStoresAlone}
use Rattle.core_repairs.proofs.runs.run_jobs.Given as goal

-- all jobs of the shards so far were run
abbrev pub invariant-loop-shard : goal.invariant-loop-shard
invariant-loop-shard g l =
    let tells = g.K.Keeper.TELLS in
    let keepers = g.K.Keeper.state in
    let shown = g.L.Link.shown in
    let start = world l.fn.nodes (keepers l.fn.keepers) (shown l.fn.link) in
    let now = world l.nodes (keepers l.keepers) (shown l.link) in
    record {
      runs : RunsTo tells l.config l.shard start now;
      rest : ChangesStoresAlone l.fn.nodes.fleet l.nodes.fleet;
      on : PostsOn tells l.config start now;
    }
