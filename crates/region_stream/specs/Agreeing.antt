-- Whether a slave's log begins its master's.
use Rattle.std.specs.Prelude.{ℕ, ◌≡◌, ◌≢◌, ◌≤◌, ◌<◌, List, length, Option, Some, None, slice_get}
use Rattle.tao_base.specs.declared.entry.Entry.{Entry}
use Rattle.graph_model.specs.Log.{entry_at}
use Rattle.shard_log.specs.View.{Begins}

-- up to a place two logs have the same entries
abbrev pub AgreeBelow : List Entry → List Entry → ℕ → Type 0
AgreeBelow log master place = (n : ℕ) → n < place → slice_get log n ≡ slice_get master n

-- at a position of the log, and at none before, the master's log has no such entry
pub record DiffersFirst (log master : List Entry) (position : ℕ) : Type 0 where
  pub some : 0 < position
  pub within : position ≤ length log
  pub differs : entry_at master position ≢ entry_at log position
  pub before : (other : ℕ) → other < position → entry_at master other ≡ entry_at log other

-- the first position at which they differ, none where the log begins the master's
abbrev pub IsFirstDifference : List Entry → List Entry → Option ℕ → Type 0
IsFirstDifference log master None = Begins log master
IsFirstDifference log master (Some position) = DiffersFirst log master position

-- the log begins the master's exactly where it differs at no position
pub record DifferencesTell : Type 0 where
  pub tell : (log master : List Entry) (position : ℕ) → Begins log master → DiffersFirst log master position → ⊥
