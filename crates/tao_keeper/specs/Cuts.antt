-- A log in two parts: its old entries, up to the cut, and the live ones.
use Rattle.std.specs.Prelude.{ℕ, ◌≡◌, ◌≤◌, ◌<◌, Bool, None, ◌++◌, take, drop}
use Rattle.graph_model.specs.Log.{entry_at}
use Rattle.graph_model.specs.Told.{WhereTold}
use Rattle.tao_base.specs.declared.id.StoreName.{StoreName}
use Rattle.tao_keeper.specs.Growing.{LogsGrow}
use Rattle.tao_keeper.specs.Table.{Becomes, Table, Tables, after_cut, live_entry, old_entry}

-- a table's log is its old entries and then its live ones, each position lies in one of the two parts, and no cut changes a log
pub record CutLaws : Type 0 where
  -- the old entries followed by the live ones are the log
  pub whole : (table : Table) → take table.cut table.log ++ drop table.cut table.log ≡ table.log
  -- past the cut an entry is live and not old, and up to it the other way round
  pub live : (table : Table) (position : ℕ) → table.cut < position
      → (live_entry table position ≡ entry_at table.log position) × (old_entry table position ≡ None)
  pub old : (table : Table) (position : ℕ) → position ≤ table.cut
      → (old_entry table position ≡ entry_at table.log position) × (live_entry table position ≡ None)
  -- a cut changes no log
  pub keeps : (tells : Bool) (before after : Tables) (at : StoreName) (upto : ℕ)
      → WhereTold tells (Becomes before after at (after_cut (before at) upto)) → LogsGrow tells before after
