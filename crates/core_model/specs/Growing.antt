-- What a request leaves of the tables.
use Rattle.std.specs.Prelude.{◌≡◌, ◌+◌, Bool, Some, None, length}
use Rattle.graph_model.specs.Log.{entry_at}
use Rattle.graph_model.specs.Told.{WhereTold}
use Rattle.tao_base.specs.declared.entry.Entry.{Entry}
use Rattle.tao_base.specs.declared.id.StoreName.{StoreName}
use Rattle.tao_keeper.specs.Growing.{CutsStay, LogsGrow}
use Rattle.tao_keeper.specs.Table.{Becomes, Tables, after_commit}
use Rattle.topology.specs.Config.{Settings}
use Rattle.core_model.specs.Stores.{IsConfiguredStore, master_log, master_of}

-- logs only grow, only tables of the configuration's stores change, and no line does
pub record TablesGoOn (tells : Bool) (s : Settings) (old new : Tables) : Type 0 where
  pub logs : LogsGrow tells old new
  pub lines : WhereTold tells ((at : StoreName) → (new at).line ≡ (old at).line)
  pub others : WhereTold tells ((at : StoreName) → (IsConfiguredStore s at → ⊥) → new at ≡ old at)

-- logs only grow, and none is cut, only tables of the configuration's stores change, and no line does
pub record StoresGrow (tells : Bool) (s : Settings) (old new : Tables) : Type 0 where
  pub on : TablesGoOn tells s old new
  pub cuts : CutsStay tells old new

-- a slave takes the entry of its shard's log that it lacks next, and no other table changes
pub record TakesNext (s : Settings) (at : StoreName) (entry : Entry) (old new : Tables) : Type 0 where
  pub slave : at.region ≡ master_of s at.shard → ⊥
  pub next : entry_at (master_log s old at.shard) (length (old at).log + 1) ≡ Some entry
  pub gains : Becomes old new at (after_commit (old at) entry None)
