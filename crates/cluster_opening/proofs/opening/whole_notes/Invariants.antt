use Rattle.std.proofs.Common.{◌≡◌}
use Rattle.core_model.specs.Pens.{pens_of}
use Rattle.cluster_opening.specs.Opening.{AreWholeNotes}
use Rattle.cluster_opening.proofs.opening.whole_notes.Given as goal

-- the notes so far are those of the first shards
abbrev pub invariant-loop-shard : goal.invariant-loop-shard
invariant-loop-shard l = record {
  notes : AreWholeNotes (pens_of l.fn.stores) l.shard l.notes.items;
  same : l.stores ≡ l.fn.stores;
}
