-- The writes of a workload by their numbers, and the first entry of a log that is of none.
use Rattle.std.specs.Prelude.{◌≡◌, ◌≢◌, ◌<◌, ℕ, List, All, Contains, Option, Some, None}
use Rattle.graph_model.specs.Log.{entry_at}
use Rattle.request_check.specs.declared.checked.CheckedWrite.{CheckedWrite}
use Rattle.tao_base.specs.declared.entry.Entry.{Entry}
use Rattle.load_audit.specs.Listed.{IsKnown, IsStrange}

-- the write of the number, or none has it
abbrev pub IsFoundBy : ℕ → List CheckedWrite → Option CheckedWrite → Type 0
IsFoundBy seq writes (Some write) = (write.seq ≡ seq) × Contains writes write × ((other : CheckedWrite) → Contains writes other → other.seq ≡ seq → other ≡ write)
IsFoundBy seq writes None = (other : CheckedWrite) → Contains writes other → other.seq ≢ seq

-- the entry at the position is strange, and none before it is
pub record IsStrangeAt (writes : List CheckedWrite) (log : List Entry) (position : ℕ) : Type 0 where
  pub entry : Entry
  pub stands : entry_at log position ≡ Some entry
  pub strange : IsStrange writes entry
  pub before : (other : ℕ) (e : Entry) → other < position → entry_at log other ≡ Some e → IsKnown writes e

-- the position of the log's first strange entry, if one is strange
abbrev pub IsFirstStrange : List CheckedWrite → List Entry → Option ℕ → Type 0
IsFirstStrange writes log (Some position) = IsStrangeAt writes log position
IsFirstStrange writes log None = All (IsKnown writes) log
