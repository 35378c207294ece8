use Rattle.std.proofs.Common.{◌∙◌, ap, arith, length, subst}
use Rattle.std.proofs.lemmas.Option.{slice_get_within}
use Rattle.std.specs.Prelude.{List, slice_index_or}
use Rattle.core_model.specs.Pens.{IsSeen, pens_of}
use Rattle.shard_log.specs.View.{View}
use Rattle.shard_tables.specs.StoreView.{Store}
use Rattle.topology.specs.Config.{Settings}
use Rattle.unlocked_nodes.proofs.MeetLemmas.{one_more_at, put_back, read_same}
use Rattle.unlocked_nodes.proofs.meeting.meet_first.Goals as goal

pub loop-shard-preserved : goal.loop-shard-preserved
loop-shard-preserved c =
    let was = c.loop-shard.invariant in
    let own : View = slice_index_or c.loop-shard.notes c.from-in-loop-shard.result c.index-notes-from.result in
    let place = c.from-in-loop-shard.ensures in
    let there = read_same c.args.notes.now c.loop-shard.notes c.from-in-loop-shard.result c.index-notes-from.result was.notes
    (let same = ap length was.notes in omega (arith, same)) in
    record {
      seen = one_more_at (IsSeen (pens_of c.args.stores.now)) c.args.notes.now c.loop-shard.shard c.from-in-loop-shard.result own place was.seen there
          (subst (λ (note : View). IsSeen (pens_of c.args.stores.now) c.loop-shard.shard note) (c.into_note.ensures ∙ c.in_ok-note.ensures.second)
          (subst (λ (xs : List Store). IsSeen (pens_of xs) c.loop-shard.shard c.into_note.result) was.same c.in_ok-meet_note.ensures.seen));
      same = c.in_ok-meet_note.ensures.same ∙ was.same;
      notes = put_back c.args.notes.now c.loop-shard.notes c.from-in-loop-shard.result c.index-notes-from.result c.split.new.self was.notes
          c.in_ok-note.ensures.same;
    }

pub returns-clause-first : goal.returns-clause-first
returns-clause-first c =
    let shards = ap (λ (n : Settings). n.shards) c.config.view_is in
    record {
      long = omega (arith, shards);
      seen = λ shard note at. c.loop-shard.invariant.seen shard note
          (let within = slice_get_within c.args.notes.now shard note at in omega (arith, shards, within)) at;
    }
