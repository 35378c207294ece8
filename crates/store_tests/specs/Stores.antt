-- What the tests' stores keep.
use Rattle.std.specs.Prelude.{◌≡◌, true}
use Rattle.tao_base.specs.EdgeTypes.{EdgeTypes}
use Rattle.tao_base.specs.declared.id.StoreName.{StoreName}
use Rattle.graph_model.specs.Soundness.{IsSoundOf}
use Rattle.tao_keeper.specs.Table.{Tables}
use Rattle.shard_tables.specs.StoreView.{Store}
use Rattle.shard_tables.specs.Stores.{IsStoreOf}
use Rattle.shard_tables.specs.declared.store.StoreRole.{StoreRole}
use Rattle.shard_tables.specs.declared.store.StoreRole.TheVariants.{Master, Slave}

-- the log of each store is sound
pub record AreSound (types : EdgeTypes) (tables : Tables) : Type 0 where
  pub of_each : (at : StoreName) → IsSoundOf types at.shard (tables at).log

-- the store has this role, over the tables of a keeper
pub record IsStoreAs (role : StoreRole) (tables : Tables) (store : Store) : Type 0 where
  pub role_is : store.role ≡ role
  pub kept : IsStoreOf true tables store

-- a master's store, and one that takes the entries of its log, each over the tables of its keeper
pub record Follows (near far : Tables) (master slave : Store) : Type 0 where
  pub as_master : IsStoreAs Master near master
  pub as_slave : IsStoreAs Slave far slave
  pub one_log : master.view.log ≡ slave.view.log
