use Rattle.std.proofs.Common.{ap, ◌∙◌, arith}
use Rattle.shard_tables.specs.StoreView.{Store}
use Rattle.node_stages.proofs.RestLemmas.{rest_more}
use Rattle.node_stages.proofs.catching.entries_after.Goals as goal

pub loop-place-preserved : goal.loop-place-preserved
loop-place-preserved g c =
    let state = g.K.Keeper.state in
    let was = c.loop-place.invariant in
    record {
      entries = λ told.
          rest_more ((state c.args.keepers.now).told c.args.store.now.name) ((state c.loop-place.keepers).told c.loop-place.store.name) c.args.low
          c.loop-place.place c.in-Some.entry c.loop-place.entries.items c.put.new.entries.items c.in_ok-found.found
          (was.tables told c.loop-place.store.name ∙ ap (λ (x : Store). (state c.args.keepers.now).told x.name) was.same) (c.requires.live told)
          c.loop-place.auto.place
          (was.entries told) (c.in_ok-found.ensures.answer told) c.in-Some.is c.in_ok-put-in-Some.ensures;
      same = c.in_ok-found.ensures.same ∙ was.same;
      tables = λ told at. c.in_ok-found.ensures.tables told at ∙ was.tables told at;
      later = record { calls = omega arith; faults = omega arith };
    }
