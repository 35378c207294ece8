use Rattle.std.proofs.Common.{◌≡◌, ℕ, ◌<◌, Some}
use Rattle.std.specs.Prelude.{slice_get}
use Rattle.core_model.specs.Pens.{IsSeen, pens_of}
use Rattle.shard_log.specs.View.{View}
use Rattle.unlocked_nodes.proofs.meeting.meet_first.Given as goal

-- those so far have met
abbrev pub invariant-loop-shard : goal.invariant-loop-shard
invariant-loop-shard l = record {
  seen : (shard : ℕ) (note : View) → shard < l.shard → slice_get l.fn.notes shard ≡ Some note → IsSeen (pens_of l.fn.stores) shard note;
  same : l.stores ≡ l.fn.stores;
  notes : l.notes ≡ l.fn.notes;
}
