use Rattle.std.proofs.Common.{◌≡◌}
use Rattle.std.specs.Prelude.{length}
use Rattle.locked_nodes.specs.Passes.{AreOfTheirLogs}
use Rattle.locked_nodes.proofs.nodes.LockedNodes.shard_notes.Given as goal

-- the notes so far are of the first shards' logs
abbrev pub invariant-loop-shard : goal.invariant-loop-shard
invariant-loop-shard g l = record {
  long : length l.notes.items ≡ l.shard;
  notes : AreOfTheirLogs g.J.Logs.log l.notes.items;
}
