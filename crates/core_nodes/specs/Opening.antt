-- The opening of the stores of a configuration.
use Rattle.std.specs.Prelude.{ℕ, zero, suc, ◌≡◌, ◌≢◌, ◌≤◌, ◌<◌, ◌+◌, ◌==◌, ◌⊎◌, ◌++◌, All, Bool, Contains, List, [], ◌∷◌, Result, Ok, Err, ⊤, filter, length}
use Rattle.std.specs.Prelude.{map, not}
use Rattle.std.specs.List.{range_with_len}
use Rattle.counts.specs.Count.{Rose}
use Rattle.tao_base.specs.declared.id.StoreName.{StoreName}
use Rattle.graph_model.specs.Told.{WhereTold}
use Rattle.shard_log.specs.View.{Begins, Grows}
use Rattle.shard_tables.specs.StoreView.{Store}
use Rattle.shard_tables.specs.Stores.{IsStoreOf}
use Rattle.tao_keeper.specs.KeeperState.{KeeperState}
use Rattle.tao_keeper.specs.Table.{Tables, Becomes, OpensAs, Stays, after_open}
use Rattle.tao_keeper.specs.declared.keeper.KeepFail.{KeepFail}
use Rattle.tao_keeper.specs.declared.keeper.KeepFail.TheVariants as keep
use Rattle.tao_keeper.specs.declared.keeper.Opened.TheVariants.{Ready, OtherLine}
use Rattle.topology.specs.Config.{Settings}
use Rattle.region_stream.specs.Agreeing.{DiffersFirst}
use Rattle.region_stream.specs.declared.opening.ShardRefusal.{ShardRefusal}
use Rattle.region_stream.specs.declared.opening.ShardRefusal.TheVariants as within
use Rattle.core_model.specs.Stores.{AreInOrder, IsConfiguredStore, IsStoreAt, master_log, master_of, master_store, region_store, store_count, store_place}
use Rattle.replies.specs.declared.opening.OpenRefusal.{OpenRefusal}
use Rattle.replies.specs.declared.opening.OpenRefusal.TheVariants as refusal

-- the store is one of the first of the configuration's, so many, in order: region by region, and in each of them shard by shard
pub record IsFirst (s : Settings) (count : ℕ) (at : StoreName) : Type 0 where
  pub here : IsConfiguredStore s at
  pub before : store_place s at < count

-- the first stores, so many, were opened with the line, and no other table changed
pub record AreOpened (s : Settings) (line : List ℕ) (count : ℕ) (old new : Tables) : Type 0 where
  pub stores : (at : StoreName) → IsFirst s count at → new at ≡ after_open (old at) line
  pub others : (at : StoreName) → (IsFirst s count at → ⊥) → new at ≡ old at

-- each of the first stores takes the line: it was opened with it before, or is opened first
abbrev pub AreReady : Settings → List ℕ → ℕ → Tables → Type 0
AreReady s line count tables = (at : StoreName) → IsFirst s count at → OpensAs Ready (tables at) line

-- every store of every region takes the line, and is open
pub record IsOpened (s : Settings) (line : List ℕ) (old new : Tables) : Type 0 where
  pub ready : AreReady s line (store_count s) old
  pub opened : AreOpened s line (store_count s) old new

-- a store was first opened with another line; those before it are open
pub record IsOtherLine (s : Settings) (line : List ℕ) (old new : Tables) : Type 0 where
  pub store : StoreName
  pub configured : IsConfiguredStore s store
  pub ready : AreReady s line (store_place s store) old
  pub other : OpensAs OtherLine (old store) line
  pub opened : AreOpened s line (store_place s store + 1) old new

-- some of the first stores are open
pub record IsOpenedInPart (s : Settings) (line : List ℕ) (old new : Tables) : Type 0 where
  pub count : ℕ
  pub some : count ≤ store_count s
  pub opened : AreOpened s line count old new

-- ---- stores that disagree

-- the store takes the entries of its shard's master, which is another one
pub record IsSlaveStore (s : Settings) (at : StoreName) : Type 0 where
  pub here : IsConfiguredStore s at
  pub apart : at.region ≢ master_of s at.shard

-- the one store is compared before the other: shard by shard, and of each shard region by region
abbrev pub IsComparedBefore : StoreName → StoreName → Type 0
IsComparedBefore one other = (one.shard < other.shard) ⊎ ((one.shard ≡ other.shard) × (one.region < other.region))

-- the store's log isn't its master's at the position, and at none before; those of the stores that are compared before it begin their masters'
pub record DisagreesAt (s : Settings) (tables : Tables) (at : StoreName) (position : ℕ) : Type 0 where
  pub differs : DiffersFirst (tables at).log (master_log s tables at.shard) position
  pub before : (other : StoreName) → IsConfiguredStore s other → IsComparedBefore other at → Begins (tables other).log (master_log s tables other.shard)

-- every store is open, and of those whose log differs from their master's, this one is compared first, and differs first at the position
pub record IsDisagreement (s : Settings) (line : List ℕ) (old new : Tables) (at : StoreName) (position : ℕ) : Type 0 where
  pub opened : IsOpened s line old new
  pub disagrees : DisagreesAt s old at position

-- why the stores could not be opened, and what was opened. Whatever the tables are, a store that is said to disagree is a slave's
abbrev pub RefusesOpening : Bool → Settings → List ℕ → KeeperState → KeeperState → OpenRefusal → Type 0
RefusesOpening tells s line old new refusal.KeeperFault = Rose old.faults new.faults × WhereTold tells (IsOpenedInPart s line old.told new.told)
RefusesOpening tells s line old new refusal.OtherLine = WhereTold tells (IsOtherLine s line old.told new.told)
RefusesOpening tells s line old new (refusal.Disagree at position) =
    IsSlaveStore s at × WhereTold tells (IsDisagreement s line old.told new.told at position)
RefusesOpening tells s line old new refusal.OutOfMemory = WhereTold tells (IsOpenedInPart s line old.told new.told)

-- ---- the opening of one store

-- why the keeper's call gives no answer
abbrev pub open_refusal : KeepFail → OpenRefusal
open_refusal keep.Failed = refusal.KeeperFault
open_refusal keep.OutOfMemory = refusal.OutOfMemory

-- the store is opened, unless the keeper fails; how it takes the line is what is answered
abbrev pub OpensOne : {T : Type 0} → List ℕ → StoreName → Tables → Tables → Result T OpenRefusal → Type 0
OpensOne line at old new (Ok opened) = OpensAs Ready (old at) line × Becomes old new at (after_open (old at) line)
OpensOne line at old new (Err refusal.OtherLine) = OpensAs OtherLine (old at) line × Becomes old new at (after_open (old at) line)
OpensOne line at old new (Err refusal.KeeperFault) = Stays old new
OpensOne line at old new (Err (refusal.Disagree store position)) = ⊥
OpensOne line at old new (Err refusal.OutOfMemory) = Stays old new

-- the keeper failed only where its count rose, and no logs are compared
abbrev pub HasOpenCause : ℕ → ℕ → OpenRefusal → Type 0
HasOpenCause before now refusal.KeeperFault = Rose before now
HasOpenCause before now refusal.OtherLine = ⊤
HasOpenCause before now (refusal.Disagree store position) = ⊥
HasOpenCause before now refusal.OutOfMemory = ⊤

-- ---- the stores, once all are open

-- the names of a shard's slaves, region by region
abbrev pub slave_names : Settings → ℕ → List StoreName
slave_names s shard = map (λ region. region_store region shard) (filter (λ region. not (region == master_of s shard)) (range_with_len 0 (length s.regions)))

-- the names of the stores of the first shards, so many, as they are made: shard by shard, the master's and then its slaves'
abbrev pub made_names : Settings → ℕ → List StoreName
made_names s zero = []
made_names s (suc shard) = made_names s shard ++ master_store s shard ∷ slave_names s shard

-- one of the stores is the master of the store's shard, and has seen all that the store has
pub record HasMaster (s : Settings) (stores : List Store) (store : Store) : Type 0 where
  pub master : Store
  pub there : Contains stores master
  pub name_is : master.name ≡ master_store s store.name.shard
  pub grows : Grows store.view master.view

-- the store is that of its name, over its keeper's log, and its master is made
pub record IsMade (tells : Bool) (s : Settings) (tables : Tables) (stores : List Store) (store : Store) : Type 0 where
  pub is : IsStoreAt s (store_place s store.name) store
  pub kept : IsStoreOf tells tables store
  pub follows : HasMaster s stores store

-- the stores of the first shards are made, so many
pub record AreMade (tells : Bool) (s : Settings) (tables : Tables) (count : ℕ) (stores : List Store) : Type 0 where
  pub names : map (λ store. store.name) stores ≡ made_names s count
  pub each : All (IsMade tells s tables stores) stores

-- the log of each store of the first shards begins its master's
abbrev pub AgreeUpTo : Settings → Tables → ℕ → Type 0
AgreeUpTo s tables count = (at : StoreName) → IsConfiguredStore s at → at.shard < count → Begins (tables at).log (master_log s tables at.shard)

-- what is answered where the stores of a shard aren't made
abbrev pub shard_refusal : ShardRefusal → OpenRefusal
shard_refusal within.KeeperFault = refusal.KeeperFault
shard_refusal (within.Disagree at position) = refusal.Disagree at position
shard_refusal within.OutOfMemory = refusal.OutOfMemory

-- the stores aren't made where the keeper failed, of which its count tells, where there was no memory, or where a slave's log doesn't begin its master's
abbrev pub RefusesMaking : Bool → Settings → KeeperState → KeeperState → OpenRefusal → Type 0
RefusesMaking tells s old new refusal.KeeperFault = Rose old.faults new.faults
RefusesMaking tells s old new refusal.OtherLine = ⊥
RefusesMaking tells s old new (refusal.Disagree at position) = IsSlaveStore s at × WhereTold tells (DisagreesAt s old.told at position)
RefusesMaking tells s old new refusal.OutOfMemory = ⊤

-- ---- the nodes before them

-- the nodes aren't made where the keeper failed, of which its count tells, or where there was no memory
abbrev pub IsUnmade : ℕ → ℕ → OpenRefusal → Type 0
IsUnmade before now refusal.KeeperFault = Rose before now
IsUnmade before now refusal.OtherLine = ⊥
IsUnmade before now (refusal.Disagree at position) = ⊥
IsUnmade before now refusal.OutOfMemory = ⊤

-- ----

-- where every store takes the line, the logs of the masters are sound with the types of the configuration, and covered, and each store has come to the cuts
abbrev pub MayOpen : Settings → List ℕ → Tables → Type 0
MayOpen s line tables = AreReady s line (store_count s) tables → AreInOrder s tables
