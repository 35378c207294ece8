-- The stores of a configuration: one for each region and shard, of which one is the shard's master.
use Rattle.std.specs.Prelude.{ℕ, ◌≡◌, ◌≤◌, ◌<◌, ◌+◌, ◌*◌, ◌==◌, List, Bool, Some, if◌then◌else◌, length, refl, slice_get, unwrap_or, ◌%◌}
use Rattle.tao_base.specs.declared.entry.Entry.{Entry}
use Rattle.tao_base.specs.declared.id.StoreName.{StoreName}
use Rattle.graph_model.specs.Soundness.{IsSoundOf}
use Rattle.graph_model.specs.Told.{WhereTold}
use Rattle.leader_tier.specs.master_tables.Masters.{Masters, stores_of}
use Rattle.leader_tier.specs.shard_tables.StoreView.{Store}
use Rattle.leader_tier.specs.shard_tables.Stores.{IsStoreOf}
use Rattle.leader_tier.specs.shard_tables.declared.store.StoreRole.{StoreRole}
use Rattle.leader_tier.specs.shard_tables.declared.store.StoreRole.TheVariants.{Master, Slave}
use Rattle.tao_keeper.specs.Table.{Tables}
use Rattle.tao_schema.specs.Schema.{types_of}
use Rattle.topology.specs.Config.{Settings}
use Rattle.write_model.specs.Merges.{Stores}
use Rattle.write_model.specs.Steps.{AreSoundAndCovered}
use Rattle.core_model.specs.Pens.{IsSeen, pens_of}

-- the master region of a shard: the masters take turns
abbrev pub master_of : Settings → ℕ → ℕ
master_of s shard = unwrap_or (slice_get s.masters (shard % length s.masters)) 0

-- the master's store of a shard
abbrev pub master_store : Settings → ℕ → StoreName
master_store s shard = record { region = master_of s shard; shard = shard }

-- the master's stores of all shards
abbrev pub masters_of : Settings → Masters
masters_of s = record { shards = s.shards; name = master_store s; of_shard = λ shard. refl }

-- the log of a shard is that of its master's store
abbrev pub master_log : Settings → Tables → ℕ → List Entry
master_log s tables shard = (tables (master_store s shard)).log

-- the logs and open jobs of all shards
abbrev pub stores_in : Settings → Tables → Stores
stores_in s tables = stores_of (masters_of s) tables

-- the logs of all shards are sound, and what is missing at the other end of an edge is owed by an open job
abbrev pub AreKeptIn : Settings → Tables → Type 0
AreKeptIn s tables = AreSoundAndCovered (types_of s.schema) (stores_in s tables)

-- each shard's log is sound with the types of the configuration
abbrev pub HasSoundLogs : Settings → Tables → Type 0
HasSoundLogs s tables = (shard : ℕ) → shard < s.shards → IsSoundOf (types_of s.schema) shard (master_log s tables shard)

-- ---- all regions

-- the store of a region and a shard
abbrev pub region_store : ℕ → ℕ → StoreName
region_store region shard = record { region = region; shard = shard }

-- the store is one of the configuration's
pub record IsConfiguredStore (s : Settings) (at : StoreName) : Type 0 where
  pub region : at.region < length s.regions
  pub shard : at.shard < s.shards

-- a store makes the writes of its shard in the shard's master region, and takes the entries of them in each other
abbrev pub role_in : Settings → StoreName → StoreRole
role_in s at = if at.region == master_of s at.shard then Master else Slave

-- each shard's master region is one of the configuration's
abbrev pub HaveMasterRegions : Settings → Type 0
HaveMasterRegions s = (shard : ℕ) → master_of s shard < length s.regions

-- the place of a store: region by region, and in each of them shard by shard
abbrev pub store_place : Settings → StoreName → ℕ
store_place s at = at.region * s.shards + at.shard

-- how many stores there are
abbrev pub store_count : Settings → ℕ
store_count s = length s.regions * s.shards

-- the store is the one that stands at the place, in the first epoch: none was ever promoted
pub record IsStoreAt (s : Settings) (place : ℕ) (store : Store) : Type 0 where
  pub place_is : place ≡ store_place s store.name
  pub here : IsConfiguredStore s store.name
  pub limit_is : store.log_max ≡ s.log_max
  pub epoch_is : store.epoch ≡ 0
  pub role_is : store.role ≡ role_in s store.name

-- the stores are the first of the configuration's, so many, in order
pub record AreStores (s : Settings) (count : ℕ) (stores : List Store) : Type 0 where
  pub long : length stores ≡ count
  pub each : (place : ℕ) (store : Store) → slice_get stores place ≡ Some store → IsStoreAt s place store

-- each store has seen its keeper's log of its name
abbrev pub HaveSeen : Bool → Tables → List Store → Type 0
HaveSeen tells tables stores = (place : ℕ) (store : Store) → slice_get stores place ≡ Some store → IsStoreOf tells tables store

-- what each store has seen of its shard's log begins that. So does a slave's log, which it has seen
abbrev pub FollowMasters : List Store → Type 0
FollowMasters stores = (place : ℕ) (store : Store) → slice_get stores place ≡ Some store → IsSeen (pens_of stores) store.name.shard store.view

-- each store of a shard has come to each cut of that shard's logs: what a cut made old, every store has taken
pub record ComeToCuts (s : Settings) (tables : Tables) : Type 0 where
  pub come : (at other : StoreName) → IsConfiguredStore s at → IsConfiguredStore s other → other.shard ≡ at.shard
      → (tables other).cut ≤ length (tables at).log

-- the logs of all shards are sound, what is missing at the other end of an edge is owed by an open job, and each store has come to the cuts
pub record AreInOrder (s : Settings) (tables : Tables) : Type 0 where
  pub kept : AreKeptIn s tables
  pub cuts : ComeToCuts s tables

-- the stores are those of the configuration, and may be used with keepers that tell these tables
pub record AreStoresOf (tells : Bool) (s : Settings) (tables : Tables) (stores : List Store) : Type 0 where
  pub configured : AreStores s (store_count s) stores
  pub kept : WhereTold tells (AreKeptIn s tables)
  pub cuts : WhereTold tells (ComeToCuts s tables)
  pub seen : HaveSeen tells tables stores
  pub follow : FollowMasters stores

-- how far the store of a region has come with the log of a shard
abbrev pub store_length : Tables → ℕ → ℕ → ℕ
store_length tables region shard = length (tables (region_store region shard)).log

-- every region's store of a shard has all of the shard's log
abbrev pub AreWhole : Settings → Tables → Type 0
AreWhole s tables = (at : StoreName) → IsConfiguredStore s at → (tables at).log ≡ master_log s tables at.shard
