-- The opening of the stores of a shard.
use Rattle.std.specs.Prelude.{ℕ, ◌≡◌, Bool, All, Contains, List, Result, Ok, Err, Some, ⊤, slice_get}
use Rattle.std.specs.List.{AllWithin}
use Rattle.tao_base.specs.declared.entry.Entry.{Entry}
use Rattle.tao_base.specs.declared.id.StoreName.{StoreName}
use Rattle.shard_log.specs.View.{Begins}
use Rattle.shard_tables.specs.StoreView.{Store}
use Rattle.shard_tables.specs.Stores.{IsStoreOf, note_of}
use Rattle.shard_tables.specs.declared.store.StoreRole.TheVariants.{Master, Slave}
use Rattle.tao_keeper.specs.Table.{Tables}
use Rattle.tao_keeper.specs.declared.keeper.KeepFail.{KeepFail}
use Rattle.tao_keeper.specs.declared.keeper.KeepFail.TheVariants as keep
use Rattle.region_stream.specs.Agreeing.{DiffersFirst}
use Rattle.region_stream.specs.declared.opening.ShardRefusal.{ShardRefusal}
use Rattle.region_stream.specs.declared.opening.ShardRefusal.TheVariants as refusal

-- what the opening answers where the keeper gave no answer
abbrev pub keeper_refusal : KeepFail → ShardRefusal
keeper_refusal keep.Failed = refusal.KeeperFault
keeper_refusal keep.OutOfMemory = refusal.OutOfMemory

-- what a name has begins the master's log
abbrev pub BeginsUnder : Tables → List Entry → StoreName → Type 0
BeginsUnder tables log name = Begins (tables name).log log

-- the first of the names of which this isn't so is this one, and it differs first at the position
pub record DisagreesFirst (tables : Tables) (log : List Entry) (names : List StoreName) (name : StoreName) (position : ℕ) : Type 0 where
  pub place : ℕ
  pub stands : slice_get names place ≡ Some name
  pub differs : DiffersFirst (tables name).log log position
  pub before : AllWithin (BeginsUnder tables log) names 0 place

-- the stores are opened exactly where the log of each begins the master's; an opening that was refused for another cause says nothing
abbrev pub AgreesAs : {T : Type 0} → Tables → List Entry → List StoreName → Result T ShardRefusal → Type 0
AgreesAs tables log names (Ok opened) = All (BeginsUnder tables log) names
AgreesAs tables log names (Err (refusal.Disagree name position)) = DisagreesFirst tables log names name position
AgreesAs tables log names (Err refusal.KeeperFault) = ⊤
AgreesAs tables log names (Err refusal.OutOfMemory) = ⊤

-- whatever the tables are, a store that is said to disagree has one of the names
abbrev pub NamesOneOf : List StoreName → ShardRefusal → Type 0
NamesOneOf names (refusal.Disagree name position) = Contains names name
NamesOneOf names refusal.KeeperFault = ⊤
NamesOneOf names refusal.OutOfMemory = ⊤

-- the master's store of that name, in the first epoch, over what its keeper has
pub record IsOpenedMaster (tells : Bool) (tables : Tables) (name : StoreName) (log_max : ℕ) (store : Store) : Type 0 where
  pub name_is : store.name ≡ name
  pub limit_is : store.log_max ≡ log_max
  pub epoch_is : store.epoch ≡ 0
  pub role_is : store.role ≡ Master
  pub kept : IsStoreOf tells tables store

-- a slave's store in the first epoch, which has seen all that the master has
abbrev pub slave_of : Store → StoreName → Store
slave_of master name = record { name = name; log_max = master.log_max; epoch = 0; role = Slave; view = note_of master }
