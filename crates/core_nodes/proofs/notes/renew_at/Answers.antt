use Rattle.std.proofs.Common.{◌∙◌, ap, sym}
use Rattle.std.proofs.lemmas.Option.{slice_get-get_or}
use Rattle.std.specs.Prelude.{slice_index_or}
use Rattle.shard_log.specs.View.{View, as_note}
use Rattle.core_model.specs.Stores.{store_place}
use Rattle.core_nodes.proofs.BeginLemmas.{master_within, pen_at}
use Rattle.core_nodes.proofs.notes.renew_at.Goals as goal

pub renew-requires : goal.renew-requires
renew-requires c =
    let place = c.store_place-place.ensures ∙ ap (store_place c.args.config.now) c.master_store.ensures in
    let s = c.args.config.now in
    let within = master_within s c.masters_are_regions.ensures c.args.stores.now c.requires.stores c.args.shard c.requires.here
    c.store_place-place.result place in
    let pen = pen_at s c.masters_are_regions.ensures c.args.stores.now c.requires.stores c.args.shard c.requires.here c.store_place-place.result
    (slice_index_or c.args.stores.now c.store_place-place.result c.index-stores-place.result) place
    (slice_get-get_or c.args.stores.now c.store_place-place.result c.index-stores-place.result within) in
    record { master = pen.role_is; one_log = ap (λ (v : View). v.log) (sym pen.view_is) ∙ c.requires.one_log }

pub returns-clause-view : goal.returns-clause-view
returns-clause-view c =
    let place = c.store_place-place.ensures ∙ ap (store_place c.args.config.now) c.master_store.ensures in
    let s = c.args.config.now in
    let within = master_within s c.masters_are_regions.ensures c.args.stores.now c.requires.stores c.args.shard c.requires.here
    c.store_place-place.result place in
    let pen = pen_at s c.masters_are_regions.ensures c.args.stores.now c.requires.stores c.args.shard c.requires.here c.store_place-place.result
    (slice_index_or c.args.stores.now c.store_place-place.result c.index-stores-place.result) place
    (slice_get-get_or c.args.stores.now c.store_place-place.result c.index-stores-place.result within) in
    c.renew.ensures.view ∙ ap as_note (sym pen.view_is)
