use Rattle.std.proofs.Common.{◌≡◌}
use Rattle.core_model.specs.Pens.{pens_of}
use Rattle.cluster_opening.specs.Opening.{HaveNotes}
use Rattle.cluster_opening.proofs.opening.all_notes.Given as goal

-- the notes so far are those of the first stores
abbrev pub invariant-loop-place : goal.invariant-loop-place
invariant-loop-place l = record {
  notes : HaveNotes (pens_of l.fn.stores) l.config.shards l.fn.stores l.place l.noted.items;
  same : l.stores ≡ l.fn.stores;
}
