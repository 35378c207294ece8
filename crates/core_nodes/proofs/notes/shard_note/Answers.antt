use Rattle.std.proofs.Common.{◌∙◌, ap}
use Rattle.std.proofs.lemmas.Result.{IfOk-weaker}
use Rattle.core_model.specs.Stores.{store_place}
use Rattle.core_nodes.proofs.BeginLemmas.{pen_note}
use Rattle.core_nodes.proofs.notes.shard_note.Goals as goal

pub returns-clause-note : goal.returns-clause-note
returns-clause-note c =
    let place = c.store_place-place.ensures ∙ ap (store_place c.args.config.now) c.master_store.ensures in
    IfOk-weaker c.note_at.result _ _
    (λ note is. pen_note c.args.config.now c.masters_are_regions.ensures c.args.stores.now c.requires.stores c.args.shard c.requires.here
    c.store_place-place.result note place is)
    c.note_at.ensures.note
