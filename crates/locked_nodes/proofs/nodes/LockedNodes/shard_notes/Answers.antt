use Rattle.locked_nodes.proofs.PassNotes.{one_more_long, one_more_of}
use Rattle.locked_nodes.proofs.nodes.LockedNodes.shard_notes.Goals as goal

pub loop-shard-preserved : goal.loop-shard-preserved
loop-shard-preserved g c = record {
  long = one_more_long c.loop-shard.shard c.in_ok-note.note c.loop-shard.notes.items c.push.new.self.items c.loop-shard.invariant.long
      c.in_ok-push.ensures.items;
  notes = one_more_of g.J.Logs.log c.loop-shard.shard c.in_ok-note.note c.loop-shard.notes.items c.push.new.self.items c.loop-shard.invariant.long
      c.loop-shard.invariant.notes c.in_ok-note.ensures c.in_ok-push.ensures.items;
}
