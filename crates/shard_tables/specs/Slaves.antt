-- What a slave's store takes of its master's log, and what a note sees that meets a store.
use Rattle.std.specs.Prelude.{◌≡◌, ◌+◌, List, length, Some}
use Rattle.tao_base.specs.declared.entry.Entry.{Entry}
use Rattle.graph_model.specs.Log.{entry_at}
use Rattle.shard_log.specs.View.{View, Grows, greater, longer, longer_view}
use Rattle.shard_tables.specs.declared.store.StoreRole.{StoreRole}
use Rattle.shard_tables.specs.declared.store.StoreRole.TheVariants.{Master, Slave}
use Rattle.shard_tables.specs.StoreView.{Store}

-- the store that has also seen what the note has
abbrev pub store_seeing : Store → View → Store
store_seeing store note = record store { view = longer_view store.view note }

-- the entry stands in what was seen right behind the log
abbrev pub IsNextIn : List Entry → List Entry → Entry → Type 0
IsNextIn seen log e = entry_at seen (length log + 1) ≡ Some e

-- what a note has seen that met a store of this role: with a master the whole log, with a slave the longer of both
abbrev pub met_entries : StoreRole → List Entry → List Entry → List Entry
met_entries Master old held = held
met_entries Slave old held = longer old held

-- the note has met the store: it has seen all that the store has, and what it had seen before
pub record HasMet (store : Store) (old new : View) : Type 0 where
  pub entries_are : new.entries ≡ met_entries store.role old.entries store.view.entries
  pub floors_are : new.floors ≡ greater old.floors store.view.floors
  pub grows : Grows store.view new
