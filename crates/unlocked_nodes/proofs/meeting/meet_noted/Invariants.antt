use Rattle.std.proofs.Common.{◌≡◌, ℕ, ◌<◌}
use Rattle.unlocked_nodes.proofs.MeetLemmas.{MeetsAt}
use Rattle.unlocked_nodes.specs.Unlocked.{notes_of}
use Rattle.unlocked_nodes.proofs.meeting.meet_noted.Given as goal

-- those so far have met
abbrev pub invariant-loop-place : goal.invariant-loop-place
invariant-loop-place l = record {
  met : (place : ℕ) → place < l.place → MeetsAt l.config.shards l.fn.stores (notes_of l.fn.noted) place;
  same : l.stores ≡ l.fn.stores;
  noted : notes_of l.noted ≡ notes_of l.fn.noted;
}
