use Rattle.std.proofs.Common.{◌≡◌, length, refl, sym, ap, subst, ◌∙◌, rules}
use Rattle.std.specs.Prelude.{IsSomeAnd, List, Some, slice_get, slice_set}
use Rattle.shard_log.specs.View.{Grows, View}
use Rattle.tao_base.specs.EdgeTypes.{InversesMatch}
use Rattle.tao_base.specs.declared.id.StoreName.{StoreName}
use Rattle.tao_schema.specs.Schema.{types_of}
use Rattle.tao_schema.specs.declared.schema.Schema.{Schema}
use Rattle.shared_stores.proofs.Learnt.{SeesWhole, note_there, sees_whole, stays_meeting}
use Rattle.shared_stores.proofs.Seen.{notes_put_again, shared_as}
use Rattle.shared_stores.specs.Locked.{entries_seen, locked}
use Rattle.shared_stores.proofs.meeting.see_each_other.Goals as goal

pub invariant_of-one-2 : goal.invariant_of-one-2
invariant_of-one-2 g c =
    let one = c.args.one.now in
    let two = c.args.two.now in
    let l = locked one.store (g.K.Keeper.state one.keeper).told one.notes.items in
    let k = locked two.store (g.K.Keeper.state two.keeper).told two.notes.items in
    let long_back : length c.whole_of.new.notes ≡ one.notes.len = search rules in
    let long : length c.put_note.new.notes ≡ one.notes.len = search rules in
    let notes = notes_put_again one.notes c.deref_mut.result.now c.whole_of.new.notes c.deref_mut-3.result.now c.put_note.new.notes c.name-2.result.shard
    two.store.name.shard c.split-2.new.self c.in_ok-of_two.of_two long_back c.whole_of.ensures.notes c.deref_mut.ensures.value long c.put_note.ensures
    c.deref_mut-3.ensures.value (ap (λ (n : StoreName). n.shard) c.name-2.ensures) (c.split-2.ensures.same ∙ c.split.ensures.same) in
    let there : SeesWhole k l c.in_ok-of_two.of_two = record {
      own = subst (λ (ns : List View). IsSomeAnd (slice_get ns two.store.name.shard) (λ own. Grows own c.in_ok-of_two.of_two)) c.deref_mut.ensures.value
          c.in_ok-of_two.ensures.grows;
      whole = c.in_ok-of_two.ensures.whole;
    } in
    let back : SeesWhole l k c.in_ok-of_one.of_one = record {
      own = subst (λ (ns : List View). IsSomeAnd (slice_get ns one.store.name.shard) (λ own. Grows own c.in_ok-of_one.of_one)) c.deref_mut-2.ensures.value
          c.in_ok-of_one.ensures.grows;
      whole = c.in_ok-of_one.ensures.whole;
    } in
    let m = g.J.Sharing.making in
    let match : InversesMatch (types_of m.settings.schema) =
    subst (λ (s : Schema). InversesMatch (types_of s)) c.requires.schema c.inverses_match.ensures in
    record {
      kept = shared_as g.K.Keeper.TELLS m g.J.Logs.log one.store c.whole_of-2.new.store l.told
          (slice_set one.notes.items two.store.name.shard c.in_ok-of_two.of_two) _ c.whole_of-2.ensures.same notes
          (stays_meeting g.K.Keeper.TELLS m g.J.Logs.log c.learns_keep_locked.ensures match k l (λ e. c.requires.apart (sym e)) c.requires.second
          c.requires.first two.kept one.kept c.in_ok-of_two.of_two c.in_ok-of_one.of_one there back);
    }

pub invariant_of-two-2 : goal.invariant_of-two-2
invariant_of-two-2 g c =
    let one = c.args.one.now in
    let two = c.args.two.now in
    let l = locked one.store (g.K.Keeper.state one.keeper).told one.notes.items in
    let k = locked two.store (g.K.Keeper.state two.keeper).told two.notes.items in
    let long_back : length c.whole_of-2.new.notes ≡ two.notes.len = search rules in
    let long : length c.put_note-2.new.notes ≡ two.notes.len = search rules in
    let notes = notes_put_again two.notes c.deref_mut-2.result.now c.whole_of-2.new.notes c.deref_mut-4.result.now c.put_note-2.new.notes c.name.result.shard
    one.store.name.shard c.in_ok-of_one.of_one c.in_ok-of_one.of_one long_back c.whole_of-2.ensures.notes c.deref_mut-2.ensures.value long
    c.put_note-2.ensures c.deref_mut-4.ensures.value (ap (λ (n : StoreName). n.shard) c.name.ensures) refl in
    let there : SeesWhole k l c.in_ok-of_two.of_two = record {
      own = subst (λ (ns : List View). IsSomeAnd (slice_get ns two.store.name.shard) (λ own. Grows own c.in_ok-of_two.of_two)) c.deref_mut.ensures.value
          c.in_ok-of_two.ensures.grows;
      whole = c.in_ok-of_two.ensures.whole;
    } in
    let back : SeesWhole l k c.in_ok-of_one.of_one = record {
      own = subst (λ (ns : List View). IsSomeAnd (slice_get ns one.store.name.shard) (λ own. Grows own c.in_ok-of_one.of_one)) c.deref_mut-2.ensures.value
          c.in_ok-of_one.ensures.grows;
      whole = c.in_ok-of_one.ensures.whole;
    } in
    let m = g.J.Sharing.making in
    let match : InversesMatch (types_of m.settings.schema) =
    subst (λ (s : Schema). InversesMatch (types_of s)) c.requires.schema c.inverses_match.ensures in
    record {
      kept = shared_as g.K.Keeper.TELLS m g.J.Logs.log two.store c.whole_of.new.store k.told
          (slice_set two.notes.items one.store.name.shard c.in_ok-of_one.of_one) _ c.whole_of.ensures.same notes
          (stays_meeting g.K.Keeper.TELLS m g.J.Logs.log c.learns_keep_locked.ensures match l k c.requires.apart c.requires.first c.requires.second one.kept
          two.kept c.in_ok-of_one.of_one c.in_ok-of_two.of_two back there);
    }

pub returns-clause-one : goal.returns-clause-one
returns-clause-one g c =
    let one = c.args.one.now in
    let two = c.args.two.now in
    let l = locked one.store (g.K.Keeper.state one.keeper).told one.notes.items in
    let k = locked two.store (g.K.Keeper.state two.keeper).told two.notes.items in
    let long_back : length c.whole_of.new.notes ≡ one.notes.len = search rules in
    let long : length c.put_note.new.notes ≡ one.notes.len = search rules in
    let notes = notes_put_again one.notes c.deref_mut.result.now c.whole_of.new.notes c.deref_mut-3.result.now c.put_note.new.notes c.name-2.result.shard
    two.store.name.shard c.split-2.new.self c.in_ok-of_two.of_two long_back c.whole_of.ensures.notes c.deref_mut.ensures.value long c.put_note.ensures
    c.deref_mut-3.ensures.value (ap (λ (n : StoreName). n.shard) c.name-2.ensures) (c.split-2.ensures.same ∙ c.split.ensures.same) in
    let there : SeesWhole k l c.in_ok-of_two.of_two = record {
      own = subst (λ (ns : List View). IsSomeAnd (slice_get ns two.store.name.shard) (λ own. Grows own c.in_ok-of_two.of_two)) c.deref_mut.ensures.value
          c.in_ok-of_two.ensures.grows;
      whole = c.in_ok-of_two.ensures.whole;
    } in
    ap (λ (ns : List View). entries_seen ns two.store.name.shard) notes ∙ sees_whole k l c.in_ok-of_two.of_two there

pub returns-clause-two : goal.returns-clause-two
returns-clause-two g c =
    let one = c.args.one.now in
    let two = c.args.two.now in
    let l = locked one.store (g.K.Keeper.state one.keeper).told one.notes.items in
    let k = locked two.store (g.K.Keeper.state two.keeper).told two.notes.items in
    let long_back : length c.whole_of-2.new.notes ≡ two.notes.len = search rules in
    let long : length c.put_note-2.new.notes ≡ two.notes.len = search rules in
    let notes = notes_put_again two.notes c.deref_mut-2.result.now c.whole_of-2.new.notes c.deref_mut-4.result.now c.put_note-2.new.notes c.name.result.shard
    one.store.name.shard c.in_ok-of_one.of_one c.in_ok-of_one.of_one long_back c.whole_of-2.ensures.notes c.deref_mut-2.ensures.value long
    c.put_note-2.ensures c.deref_mut-4.ensures.value (ap (λ (n : StoreName). n.shard) c.name.ensures) refl in
    let back : SeesWhole l k c.in_ok-of_one.of_one = record {
      own = subst (λ (ns : List View). IsSomeAnd (slice_get ns one.store.name.shard) (λ own. Grows own c.in_ok-of_one.of_one)) c.deref_mut-2.ensures.value
          c.in_ok-of_one.ensures.grows;
      whole = c.in_ok-of_one.ensures.whole;
    } in
    ap (λ (ns : List View). entries_seen ns one.store.name.shard) notes ∙ sees_whole l k c.in_ok-of_one.of_one back

pub returns-clause-own : goal.returns-clause-own
returns-clause-own g c =
    let one = c.args.one.now in
    let two = c.args.two.now in
    let l = locked one.store (g.K.Keeper.state one.keeper).told one.notes.items in
    let k = locked two.store (g.K.Keeper.state two.keeper).told two.notes.items in
    let long_back : length c.whole_of.new.notes ≡ one.notes.len = search rules in
    let long : length c.put_note.new.notes ≡ one.notes.len = search rules in
    let notes = notes_put_again one.notes c.deref_mut.result.now c.whole_of.new.notes c.deref_mut-3.result.now c.put_note.new.notes c.name-2.result.shard
    two.store.name.shard c.split-2.new.self c.in_ok-of_two.of_two long_back c.whole_of.ensures.notes c.deref_mut.ensures.value long c.put_note.ensures
    c.deref_mut-3.ensures.value (ap (λ (n : StoreName). n.shard) c.name-2.ensures) (c.split-2.ensures.same ∙ c.split.ensures.same) in
    let there : SeesWhole k l c.in_ok-of_two.of_two = record {
      own = subst (λ (ns : List View). IsSomeAnd (slice_get ns two.store.name.shard) (λ own. Grows own c.in_ok-of_two.of_two)) c.deref_mut.ensures.value
          c.in_ok-of_two.ensures.grows;
      whole = c.in_ok-of_two.ensures.whole;
    } in
    ap (λ (ns : List View). slice_get ns two.store.name.shard) notes ∙ note_there k l c.in_ok-of_two.of_two there ∙ ap Some (sym c.in_ok-own.ensures.second)
