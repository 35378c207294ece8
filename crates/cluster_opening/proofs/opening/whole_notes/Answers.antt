use Rattle.std.proofs.Common.{◌∙◌, subst}
use Rattle.core_model.specs.Pens.{pens_of}
use Rattle.cluster_opening.proofs.OpenedNotes.{one_more_note}
use Rattle.cluster_opening.specs.Opening.{IsWholeNote}
use Rattle.cluster_opening.proofs.opening.whole_notes.Goals as goal

pub loop-shard-preserved : goal.loop-shard-preserved
loop-shard-preserved c = record {
  notes = one_more_note (pens_of c.args.stores.now) c.loop-shard.shard c.in_ok-note.note c.loop-shard.notes.items c.push.new.self.items
      c.loop-shard.invariant.notes
      (subst (λ xs. IsWholeNote (pens_of xs) c.loop-shard.shard c.in_ok-note.note) c.loop-shard.invariant.same c.in_ok-note.ensures.note)
      c.in_ok-push.ensures.items;
  same = c.whole_note.ensures.same ∙ c.loop-shard.invariant.same;
}
