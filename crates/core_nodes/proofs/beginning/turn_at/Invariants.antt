use Rattle.std.proofs.Common.{◌≡◌, take}
use Rattle.std.specs.Prelude.{map}
use Rattle.core_nodes.specs.Beginning.{length_in, note_in}
use Rattle.core_nodes.proofs.beginning.turn_at.Given as goal

abbrev pub invariant-loop-shard : goal.invariant-loop-shard
invariant-loop-shard l = record {
  lows : l.lows.items ≡ map (length_in l.config l.lengths l.region) (take l.shard-index l.shards);
  notes : l.notes.items ≡ map (note_in l.config l.fn.stores l.region) (take l.shard-index l.shards);
  same : l.stores ≡ l.fn.stores;
}
