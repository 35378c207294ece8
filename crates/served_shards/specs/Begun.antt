-- The shards that a node begins with, and begins anew.
use Rattle.std.specs.Prelude.{◌≡◌, ℕ, ⊤, ◌≤◌, Bool, List, [], ◌∷◌, length}
use Rattle.std.specs.List.{AllByRecursion}
use Rattle.shard_log.specs.graph_model.Told.{WhereTold}
use Rattle.low_water.specs.Marks.{marks}
use Rattle.shard_log.specs.View.{View}
use Rattle.served_shards.specs.Served.{ServedShard, restarting}

-- shards of which everything up to a position is processed, each with what was seen of its log
abbrev pub begun_at : List ℕ → List ℕ → List View → List ServedShard
begun_at [] lows notes = []
begun_at (shard ∷ shards) [] notes = []
begun_at (shard ∷ shards) (low ∷ lows) [] = []
begun_at (shard ∷ shards) (low ∷ lows) (note ∷ notes) = record { shard = shard; marks = marks low []; view = note } ∷ begun_at shards lows notes

-- each position is at most the length of what was seen of its log, where that is told
abbrev pub AreReached : List ℕ → List View → Type 0
AreReached [] [] = ⊤
AreReached [] (note ∷ notes) = ⊥
AreReached (low ∷ lows) [] = ⊥
AreReached (low ∷ lows) (note ∷ notes) = WhereTold note.log.told (low ≤ length note.entries) × AreReached lows notes

-- the logs of the notes are told all, or none
pub record AreToldAlike (notes : List View) : Type 0 where
  pub told : Bool
  pub each : AllByRecursion (λ v. v.log.told ≡ told) notes

-- the notes are of the served shards' logs, in their order
abbrev pub AreNotesOf : List ServedShard → List View → Type 0
AreNotesOf [] [] = ⊤
AreNotesOf [] (note ∷ notes) = ⊥
AreNotesOf (s ∷ ss) [] = ⊥
AreNotesOf (s ∷ ss) (note ∷ notes) = (s.view.log ≡ note.log) × AreNotesOf ss notes

-- each shard begun anew at a position, its note met
abbrev pub restarted : List ServedShard → List ℕ → List View → List ServedShard
restarted [] lows notes = []
restarted (s ∷ ss) [] notes = s ∷ ss
restarted (s ∷ ss) (low ∷ lows) [] = s ∷ ss
restarted (s ∷ ss) (low ∷ lows) (note ∷ notes) = restarting low note s ∷ restarted ss lows notes
