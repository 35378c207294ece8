-- The passes of a cluster's sessions.
use Rattle.std.specs.Prelude.{ℕ, ◌≡◌, ◌<◌, IsSomeAnd, List, Some, length, slice_get}
use Rattle.core_model.specs.Reads.{Wanted}
use Rattle.session_pass.specs.Floors.{FloorsRise}
use Rattle.session_pass.specs.Passes.{SeenPass}
use Rattle.shard_log.specs.GrowthLaws.{IsLegalIn}
use Rattle.shard_log.specs.View.{Grows, View}
use Rattle.log_names.specs.Names.{IsOfLog, LogNames}
use Rattle.shared_nodes.specs.shared_stores.Making.{Making}
use Rattle.locked_nodes.specs.Nodes.{HasTier}
use Rattle.tao_base.specs.EdgeTypes.{EdgeTypes}
use Rattle.tao_base.specs.Queries.{query_shard}
use Rattle.tao_base.specs.declared.query.Answer.{Answer}

-- each note is of its shard's log
abbrev pub AreOfTheirLogs : LogNames → List View → Type 0
AreOfTheirLogs log notes = (shard : ℕ) (note : View) → slice_get notes shard ≡ Some note → IsOfLog log shard note

-- the pass is of the cluster: its region and its tier are configured, and it has a note for each configured shard, of that shard's log
pub record IsPassOf (m : Making) (log : LogNames) (pass : SeenPass) : Type 0 where
  pub home : pass.region < length m.settings.regions
  pub tier : HasTier m.settings pass.region pass.tier
  pub long : length pass.notes ≡ m.settings.shards
  pub notes : AreOfTheirLogs log pass.notes

-- what was seen of each shard's log begins what is seen
abbrev pub NotesGrow : List View → List View → Type 0
NotesGrow old new = (shard : ℕ) (from : View) → slice_get old shard ≡ Some from → IsSomeAnd (slice_get new shard) (Grows from)

-- a pass goes on: it is of the same session, no floor fell, and what it has seen grew
pub record PassGoesOn (old new : SeenPass) : Type 0 where
  pub session : new.session ≡ old.session
  pub region : new.region ≡ old.region
  pub tier : new.tier ≡ old.tier
  pub floors : FloorsRise old.floors new.floors
  pub notes : NotesGrow old.notes new.notes

-- the pass has seen all that the note has of the shard's log
abbrev pub SeesNote : ℕ → View → List View → Type 0
SeesNote shard note notes = IsSomeAnd (slice_get notes shard) (Grows note)

-- the answer is legal in what the pass has seen of the shard's log
abbrev pub IsLegalSeen : EdgeTypes → List View → Wanted → Answer → ℕ → Type 0
IsLegalSeen types notes read answer version =
    IsSomeAnd (slice_get notes (query_shard read.query)) (λ note. IsLegalIn types note read.query read.floor answer version)
