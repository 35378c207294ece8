use Rattle.std.proofs.Common.{◌∙◌, ap}
use Rattle.core_model.specs.Pens.{pens_of}
use Rattle.shard_log.specs.View.{as_note}
use Rattle.core_nodes.proofs.BeginLemmas.{notes_more}
use Rattle.core_nodes.proofs.notes.all_notes.Goals as goal

pub loop-shard-preserved : goal.loop-shard-preserved
loop-shard-preserved c = record {
  notes = notes_more (pens_of c.args.stores.now) c.loop-shard.shard c.in_ok-note.note c.loop-shard.notes.items c.push.new.self.items
      c.loop-shard.invariant.notes
      (c.in_ok-note.ensures.note ∙ ap (λ xs. as_note (pens_of xs c.loop-shard.shard)) c.loop-shard.invariant.same) c.in_ok-push.ensures.items;
  same = c.shard_note.ensures.same ∙ c.loop-shard.invariant.same;
}
