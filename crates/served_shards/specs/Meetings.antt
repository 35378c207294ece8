-- What is known where a served shard met a note of its log.
use Rattle.std.specs.Prelude.{◌≡◌, ℕ, ⊤, List, [], ◌∷◌, Some}
use Rattle.std.specs.List.{AllByRecursion}
use Rattle.shard_log.specs.graph_model.Soundness.{IsSound}
use Rattle.shard_log.specs.graph_model.Told.{WhereTold}
use Rattle.shard_log.specs.View.{View, Grows, longer_view}
use Rattle.served_shards.specs.Served.{ServedShard, served_at}

-- what was seen and what the note has seen both begin the longer of the two, which is sound
pub record Meets (s : ServedShard) (note : View) : Type 0 where
  pub grows : Grows s.view (longer_view s.view note)
  pub from_note : Grows note (longer_view s.view note)
  pub sound : WhereTold s.view.log.told (IsSound (longer_view s.view note).entries)

-- what the node has of a shard met a note, where it serves the shard
pub record MeetsAt (shard : ℕ) (note : View) (served : List ServedShard) : Type 0 where
  pub meets : (s : ServedShard) → served_at shard served ≡ Some s → Meets s note

-- each served shard met a note, in their order
abbrev pub MeetEach : List ServedShard → List View → Type 0
MeetEach [] [] = ⊤
MeetEach [] (note ∷ notes) = ⊥
MeetEach (s ∷ ss) [] = ⊥
MeetEach (s ∷ ss) (note ∷ notes) = Meets s note × MeetEach ss notes

-- what was seen of each log is sound
abbrev pub AreSeenSound : List ServedShard → Type 0
AreSeenSound served = AllByRecursion (λ s. WhereTold s.view.log.told (IsSound s.view.entries)) served
