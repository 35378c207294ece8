-- What becomes of an entry of the master's log at a slave's store.
use Rattle.std.specs.Prelude.{ℕ, ◌≡◌, ◌≤◌, ◌<◌, ◌+◌, Option, Some, None, Result, Ok, Err}
use Rattle.tao_base.specs.declared.entry.Entry.{Entry}
use Rattle.shard_log.specs.View.{View}
use Rattle.shard_tables.specs.Slaves.{store_seeing}
use Rattle.shard_tables.specs.StoreView.{Store}
use Rattle.shard_tables.specs.declared.refusal.StoreRefusal.{StoreRefusal}
use Rattle.region_stream.specs.declared.applying.Applied.{Applied}
use Rattle.region_stream.specs.declared.applying.Applied.TheVariants as verdict

-- the entry of the position is applied exactly where it comes next after so many, it is old exactly where it was applied, and else there is a gap
abbrev pub IsVerdict : ℕ → ℕ → Applied → Type 0
IsVerdict count position verdict.Applied = position ≡ count + 1
IsVerdict count position verdict.Old = position ≤ count
IsVerdict count position (verdict.Gap next) = (next ≡ count + 1) × (next < position)

-- the entry, where it was added
abbrev pub entry_applied : Entry → Result Applied StoreRefusal → Option Entry
entry_applied e (Ok verdict.Applied) = Some e
entry_applied e (Ok verdict.Old) = None
entry_applied e (Ok (verdict.Gap next)) = None
entry_applied e (Err refusal) = None

-- the store afterwards: where the entry was added, it has seen what the note has
abbrev pub store_applied : View → Result Applied StoreRefusal → Store → Store
store_applied note (Ok verdict.Applied) store = store_seeing store note
store_applied note (Ok verdict.Old) store = store
store_applied note (Ok (verdict.Gap next)) store = store
store_applied note (Err refusal) store = store
