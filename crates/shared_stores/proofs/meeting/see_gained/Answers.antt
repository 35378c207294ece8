use Rattle.std.proofs.Common.{◌≡◌, ◌≤◌, length, refl, sym, ap, subst, ◌∙◌, rules}
use Rattle.std.specs.Prelude.{List, slice_set}
use Rattle.graph_model.specs.Told.{WhereTold}
use Rattle.shard_log.specs.View.{Begins, View, as_note}
use Rattle.tao_base.specs.EdgeTypes.{InversesMatch}
use Rattle.tao_base.specs.declared.entry.Entry.{Entry}
use Rattle.tao_base.specs.declared.id.StoreName.{StoreName}
use Rattle.tao_schema.specs.Schema.{types_of}
use Rattle.tao_schema.specs.declared.schema.Schema.{Schema}
use Rattle.shared_stores.proofs.Learnt.{Learns, has_begun, stays_learning}
use Rattle.shared_stores.proofs.Seen.{notes_put, seen_set, seen_whole, shared_as}
use Rattle.shared_stores.specs.Locked.{entries_seen, locked}
use Rattle.shared_stores.proofs.meeting.see_gained.Goals as goal

pub invariant_of-near : goal.invariant_of-near
invariant_of-near g c =
    let near = c.args.near.now in
    let far = c.args.far.now in
    let l = locked near.store (g.K.Keeper.state near.keeper).told near.notes.items in
    let f = locked far.store (g.K.Keeper.state far.keeper).told far.notes.items in
    let m = g.J.Sharing.making in
    let note = as_note far.store.view in
    let long : length c.put_note.new.notes ≡ near.notes.len = search rules in
    let notes = notes_put near.notes c.deref_mut.result.now c.put_note.new.notes c.name-there.result.shard far.store.name.shard c.anew-own.result note long
    c.put_note.ensures c.deref_mut.ensures.value (ap (λ (n : StoreName). n.shard) c.name-there.ensures) c.anew-own.ensures.whole in
    let learns : Learns f l c.args.spares.own note = record {
      was = c.requires.own;
      grows = record {
        log_is = far.kept.log_is ∙ sym (near.kept.notes far.store.name.shard c.args.spares.own c.requires.own).log_is;
        begins = c.requires.begins;
      };
      whole = refl;
      back = subst (λ (x : List Entry). Begins x near.store.view.entries) (sym c.requires.back) (seen_whole near.store.view.entries);
    } in
    let match : InversesMatch (types_of m.settings.schema) =
    subst (λ (s : Schema). InversesMatch (types_of s)) c.requires.schema c.inverses_match.ensures in
    let least : WhereTold g.K.Keeper.TELLS (m.begun near.store.name.shard ≤ length (entries_seen far.notes.items near.store.name.shard)) =
    λ told. subst (λ (x : List Entry). m.begun near.store.name.shard ≤ length x) (sym c.requires.back)
    (has_begun m l (near.kept.master told c.requires.first)) in
    record {
      kept = shared_as g.K.Keeper.TELLS m g.J.Logs.log near.store near.store l.told (slice_set near.notes.items far.store.name.shard note) _ refl notes
          (stays_learning g.K.Keeper.TELLS m g.J.Logs.log c.learns_keep_locked.ensures match f l (λ e. c.requires.apart (sym e)) c.requires.second
          c.requires.first far.kept near.kept c.args.spares.own note learns least);
    }

pub returns-clause-near : goal.returns-clause-near
returns-clause-near g c =
    let near = c.args.near.now in
    let far = c.args.far.now in
    let long : length c.put_note.new.notes ≡ near.notes.len = search rules in
    let note = as_note far.store.view in
    ap (λ (ns : List View). entries_seen ns far.store.name.shard) (notes_put near.notes c.deref_mut.result.now c.put_note.new.notes c.name-there.result.shard
    far.store.name.shard c.anew-own.result note long c.put_note.ensures c.deref_mut.ensures.value (ap (λ (n : StoreName). n.shard) c.name-there.ensures)
    c.anew-own.ensures.whole)
    ∙ seen_set near.notes.items far.store.name.shard c.args.spares.own note c.requires.own
