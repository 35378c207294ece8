-- What ties a store to its keeper, and what becomes of it.
use Rattle.std.specs.Prelude.{ℕ, ◌≡◌, ◌≤◌, Bool, List, [], ◌∷◌, ◌++◌, length, Option, Some, None}
use Rattle.tao_base.specs.declared.entry.Entry.{Entry}
use Rattle.graph_model.specs.Told.{WhereTold}
use Rattle.shard_log.specs.View.{View, Begins, as_note}
use Rattle.tao_keeper.specs.Table.{Tables}
use Rattle.shard_tables.specs.declared.refusal.StoreRefusal.{StoreRefusal}
use Rattle.shard_tables.specs.declared.refusal.StoreRefusal.TheVariants.{LogFull}
use Rattle.shard_tables.specs.declared.store.StoreRole.{StoreRole}
use Rattle.shard_tables.specs.declared.store.StoreRole.TheVariants.{Master, Slave}
use Rattle.shard_tables.specs.StoreView.{Store}

-- a master has seen its keeper's log, a slave that and maybe more
abbrev pub HasSeen : StoreRole → List Entry → List Entry → Type 0
HasSeen Master log seen = seen ≡ log
HasSeen Slave log seen = Begins log seen

-- the store's log is told where the keeper's tables are, and there it has seen the keeper's log of its name
pub record IsStoreOf (tells : Bool) (tables : Tables) (store : Store) : Type 0 where
  pub told_is : store.view.log.told ≡ tells
  pub seen : WhereTold tells (HasSeen store.role (tables store.name).log store.view.entries)

-- the log with the entry, where there is one
abbrev pub with_added : List Entry → Option Entry → List Entry
with_added log None = log
with_added log (Some e) = log ++ e ∷ []

-- the store with the entry added to what it has seen of the log, where there is one
abbrev pub store_with : Store → Option Entry → Store
store_with store added = record store { view = record store.view { entries = with_added store.view.entries added } }

-- what a note sees that has seen all that a store of this role has
abbrev pub seen_by : StoreRole → View → View
seen_by Master view = as_note view
seen_by Slave view = view

-- what a note sees that has seen all that the store has
abbrev pub note_of : Store → View
note_of store = seen_by store.role store.view

-- how many entries a store has seen of its log
abbrev pub length_of : Store → ℕ
length_of store = length store.view.entries

-- the log is full, and the refusal says so
pub record IsFullFor (store : Store) (refusal : StoreRefusal) : Type 0 where
  pub is : refusal ≡ LogFull (length_of store)
  pub full : store.log_max ≤ length_of store
