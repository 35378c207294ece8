-- The stores of a configuration by their names and roles, and one of them that changes.
use Rattle.std.specs.Prelude.{ℕ, ◌≡◌, ◌≢◌, ◌<◌, Bool, true, List, Some, slice_get, slice_set}
use Rattle.graph_model.specs.Told.{WhereTold}
use Rattle.shard_log.specs.View.{Begins, Grows, View}
use Rattle.leader_tier.specs.shard_tables.StoreView.{Store}
use Rattle.leader_tier.specs.shard_tables.Stores.{IsStoreOf}
use Rattle.leader_tier.specs.shard_tables.declared.store.StoreRole.TheVariants.{Master, Slave}
use Rattle.tao_base.specs.declared.id.StoreName.{StoreName}
use Rattle.tao_keeper.specs.Table.{Tables}
use Rattle.topology.specs.Config.{Settings}
use Rattle.core_model.specs.Pens.{IsSeen, Rise, master_in, pens_of, store_in}
use Rattle.core_model.specs.Stores.{AreStores, AreStoresOf, FollowMasters, HaveMasterRegions, HaveSeen, IsConfiguredStore, master_log, master_store}
use Rattle.core_model.specs.Stores.{store_count, store_place}

-- ---- each is found

-- the store of that name stands at its place, and is found by its name
pub record IsFoundAt (s : Settings) (stores : List Store) (at : StoreName) (store : Store) : Type 0 where
  pub stands : slice_get stores (store_place s at) ≡ Some store
  pub name_is : store.name ≡ at
  pub found : store_in stores at ≡ Some store

-- each configured store is found by its name, and each shard's master by its role
pub record StoresAreFound (s : Settings) (stores : List Store) : Type 0 where
  pub named : (at : StoreName) → AreStores s (store_count s) stores → IsConfiguredStore s at → (store : Store) × IsFoundAt s stores at store
  -- whatever is found by its name
  pub called : (at : StoreName) (store : Store) → AreStores s (store_count s) stores → store_in stores at ≡ Some store → IsFoundAt s stores at store
  -- the master of a shard is found by its role
  pub master : (shard : ℕ) (store : Store) → AreStores s (store_count s) stores → IsFoundAt s stores (master_store s shard) store
      → (store.role ≡ Master) × (master_in stores shard ≡ Some store)
  -- and what is so found is that
  pub by_role : (shard : ℕ) (store : Store) → AreStores s (store_count s) stores → master_in stores shard ≡ Some store
      → IsFoundAt s stores (master_store s shard) store

-- each store's log begins its shard's log: a slave's is a beginning of its master's
pub record LogsFollow (s : Settings) (tables : Tables) (stores : List Store) : Type 0 where
  pub follows : (at : StoreName) → HaveMasterRegions s → AreStoresOf true s tables stores → IsConfiguredStore s at
      → Begins (tables at).log (master_log s tables at.shard)
  -- where the tables are told, so is each log that is seen
  pub tells : (shard : ℕ) (view : View) → HaveMasterRegions s → AreStoresOf true s tables stores → shard < s.shards → IsSeen (pens_of stores) shard view
      → view.log.told ≡ true

-- ---- one changes

-- a store stays the one that it was, and what it has seen grows
pub record StoreGoesOn (old new : Store) : Type 0 where
  pub name_is : new.name ≡ old.name
  pub limit_is : new.log_max ≡ old.log_max
  pub epoch_is : new.epoch ≡ old.epoch
  pub role_is : new.role ≡ old.role
  pub grows : Grows old.view new.view

-- the tables of the stores at other places stay
abbrev pub OtherTablesStay : List Store → ℕ → Tables → Tables → Type 0
OtherTablesStay stores place before after = (other : ℕ) (store : Store) → slice_get stores other ≡ Some store → other ≢ place
    → after store.name ≡ before store.name

-- when one store goes on, the stores stay those of the configuration, no log is cut back, and each store's view still begins its shard's log
pub record StoresGoOn (stores : List Store) (place : ℕ) (old new : Store) (stands : slice_get stores place ≡ Some old) (goes : StoreGoesOn old new)
    : Type 0 where
  pub are : (s : Settings) (count : ℕ) → AreStores s count stores → AreStores s count (slice_set stores place new)
  -- no log is cut back
  pub rise : Rise (pens_of stores) (pens_of (slice_set stores place new))
  -- the pen of a master's shard is then what the store has seen
  pub pen : (s : Settings) (shard : ℕ) → AreStores s (store_count s) stores → place ≡ store_place s (master_store s shard)
      → IsConfiguredStore s (master_store s shard) → pens_of (slice_set stores place new) shard ≡ new.view
  -- a slave changes no pen
  pub slave : new.role ≡ Slave → pens_of (slice_set stores place new) ≡ pens_of stores
  -- what each has seen begins its shard's log
  pub follow : FollowMasters stores → IsSeen (pens_of (slice_set stores place new)) new.name.shard new.view → FollowMasters (slice_set stores place new)
  -- and is its keeper's log, where no other table changed
  pub seen : (tells : Bool) (before after : Tables) → WhereTold tells (OtherTablesStay stores place before after) → IsStoreOf tells after new
      → HaveSeen tells before stores → HaveSeen tells after (slice_set stores place new)
