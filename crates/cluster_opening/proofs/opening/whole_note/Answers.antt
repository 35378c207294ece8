use Rattle.std.proofs.Common.{◌∙◌, ap, sym}
use Rattle.std.proofs.lemmas.Option.{slice_get-get_or}
use Rattle.std.specs.Prelude.{slice_index_or}
use Rattle.core_model.specs.Stores.{store_place}
use Rattle.locked_nodes.proofs.core_nodes_lemmas.BeginLemmas.{master_within, pen_at}
use Rattle.leader_tier.proofs.LegalReads.{role_log}
use Rattle.shard_log.specs.View.{View}
use Rattle.shard_tables.specs.StoreView.{Store}
use Rattle.cluster_opening.proofs.OpenedNotes.{whole_is}
use Rattle.cluster_opening.proofs.opening.whole_note.Goals as goal

pub whole-requires : goal.whole-requires
whole-requires c =
    let place = c.store_place-place.ensures ∙ ap (store_place c.args.config.now) c.master_store.ensures in
    let s = c.args.config.now in
    let within = master_within s c.masters_are_regions.ensures c.args.stores.now c.requires.stores c.args.shard c.requires.here
    c.store_place-place.result place in
    let store = slice_index_or c.args.stores.now c.store_place-place.result c.index-stores-place.result in
    let pen = pen_at s c.masters_are_regions.ensures c.args.stores.now c.requires.stores c.args.shard c.requires.here c.store_place-place.result store place
    (slice_get-get_or c.args.stores.now c.store_place-place.result c.index-stores-place.result within) in
    record {
      master = ap (λ (x : Store). x.role) c.note.ensures.same ∙ pen.role_is;
      one_log = ap (λ (x : Store). x.view.log) c.note.ensures.same
          ∙ (sym (role_log store.role store.view) ∙ ap (λ (v : View). v.log) (sym c.in_ok-note.ensures.view));
    }

pub returns-clause-note : goal.returns-clause-note
returns-clause-note c =
    let place = c.store_place-place.ensures ∙ ap (store_place c.args.config.now) c.master_store.ensures in
    let s = c.args.config.now in
    let within = master_within s c.masters_are_regions.ensures c.args.stores.now c.requires.stores c.args.shard c.requires.here
    c.store_place-place.result place in
    let store = slice_index_or c.args.stores.now c.store_place-place.result c.index-stores-place.result in
    let pen = pen_at s c.masters_are_regions.ensures c.args.stores.now c.requires.stores c.args.shard c.requires.here c.store_place-place.result store place
    (slice_get-get_or c.args.stores.now c.store_place-place.result c.index-stores-place.result within) in
    let view = ap (λ (x : Store). x.view) c.note.ensures.same in
    whole_is _ c.args.shard c.note.new.self.view c.in_ok-note.note c.whole.result (pen.view_is ∙ sym view)
    (ap (λ (v : View). v.log) c.in_ok-note.ensures.view ∙ (role_log store.role store.view ∙ ap (λ (v : View). v.log) (sym view)))
    c.whole.ensures.whole c.whole.ensures.grows
