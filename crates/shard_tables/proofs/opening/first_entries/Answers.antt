use Rattle.std.proofs.Common.{[], ◌∷◌, length, length-append, ap, ◌∙◌, arith}
use Rattle.shard_tables.proofs.OpenLemmas.{entries_more}
use Rattle.shard_tables.proofs.opening.first_entries.Goals as goal

pub loop-place-preserved : goal.loop-place-preserved
loop-place-preserved g c = record {
  entries = λ told.
      entries_more _ _ c.loop-place.place c.in-Some.entry _ _ c.in_ok-found.found (c.loop-place.invariant.stays told c.args.at)
      (c.loop-place.invariant.entries told)
      (c.in_ok-found.ensures.answer told) c.in-Some.is c.in_ok-push-in-Some.ensures.items;
  few = omega (arith, length-append c.loop-place.entries.items (c.in-Some.entry ∷ []), ap length c.in_ok-push-in-Some.ensures.items);
  stays = λ told s. c.in_ok-found.ensures.stays told s ∙ c.loop-place.invariant.stays told s;
  calls = omega (arith, c.in_ok-found.ensures.call.counted);
  faults = omega (arith, c.in_ok-found.ensures.call.faults);
}
