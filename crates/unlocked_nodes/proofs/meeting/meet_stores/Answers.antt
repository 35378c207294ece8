use Rattle.std.proofs.Common.{◌∙◌, ◌<◌, ap, arith, length, subst, sym}
use Rattle.std.proofs.lemmas.Option.{slice_get_within}
use Rattle.std.specs.Prelude.{List, slice_index_or}
use Rattle.core_model.specs.Pens.{IsSeen, pens_of}
use Rattle.leader_tier.proofs.LegalReads.{role_log}
use Rattle.shard_log.specs.View.{Grows, View}
use Rattle.shard_tables.specs.StoreView.{Store}
use Rattle.tao_base.specs.declared.id.StoreName.{StoreName}
use Rattle.unlocked_nodes.proofs.MeetLemmas.{one_more_of, put_back, read_same, seen_note}
use Rattle.unlocked_nodes.proofs.meeting.meet_stores.Goals as goal

pub meet_note-requires-clause-here : goal.meet_note-requires-clause-here
meet_note-requires-clause-here c =
    let was = c.loop-place.invariant in
    let there = read_same c.args.stores.now c.loop-place.stores c.loop-place.place c.index-stores-place.result was.same
    (let same = ap length was.same in omega (arith, same)) in
    subst (λ (n : StoreName). n.shard < c.args.config.now.shards) (sym c.name-shard.ensures) (c.requires.stores.each c.loop-place.place _ there).here.shard

pub meet_note-requires-clause-one_log : goal.meet_note-requires-clause-one_log
meet_note-requires-clause-one_log c =
    let was = c.loop-place.invariant in
    let store : Store = slice_index_or c.loop-place.stores c.loop-place.place c.index-stores-place.result in
    let there = read_same c.args.stores.now c.loop-place.stores c.loop-place.place c.index-stores-place.result was.same
    (let same = ap length was.same in omega (arith, same)) in
    let back = put_back c.args.stores.now c.loop-place.stores c.loop-place.place c.index-stores-place.result c.note.new.self was.same
    c.in_ok-note.ensures.same in
    ap (λ (xs : List Store). (pens_of xs c.name-shard.result.shard).log) back
    ∙ ap (λ (n : StoreName). (pens_of c.args.stores.now n.shard).log) c.name-shard.ensures
    ∙ c.requires.logs c.loop-place.place store there
    ∙ sym (ap (λ (v : View). v.log) c.in_ok-note.ensures.view ∙ role_log store.role store.view)

pub loop-place-preserved : goal.loop-place-preserved
loop-place-preserved c =
    let was = c.loop-place.invariant in
    let store : Store = slice_index_or c.loop-place.stores c.loop-place.place c.index-stores-place.result in
    let there = read_same c.args.stores.now c.loop-place.stores c.loop-place.place c.index-stores-place.result was.same
    (let same = ap length was.same in omega (arith, same)) in
    let back = put_back c.args.stores.now c.loop-place.stores c.loop-place.place c.index-stores-place.result c.note.new.self was.same
    c.in_ok-note.ensures.same in
    record {
      seen = one_more_of (λ (x : Store). IsSeen (pens_of c.args.stores.now) x.name.shard x.view) c.args.stores.now c.loop-place.place store was.seen there
          (seen_note store.role store.view (pens_of c.args.stores.now store.name.shard)
          (subst (λ (v : View). Grows v (pens_of c.args.stores.now store.name.shard)) c.in_ok-note.ensures.view
          (subst (λ (n : StoreName). IsSeen (pens_of c.args.stores.now) n.shard c.in_ok-note.note) c.name-shard.ensures
          (subst (λ (xs : List Store). IsSeen (pens_of xs) c.name-shard.result.shard c.in_ok-note.note) back c.in_ok-meet_note.ensures.seen))));
      same = c.in_ok-meet_note.ensures.same ∙ back;
    }

pub returns-clause-follow : goal.returns-clause-follow
returns-clause-follow c place store at =
    c.loop-place.invariant.seen place store
    (let within = slice_get_within c.args.stores.now place store at in let same = ap length c.loop-place.invariant.same in omega (arith, within, same)) at
