-- A configuration.
use Rattle.std.specs.Prelude.{ℕ, ◌<◌, List, length, All, IsTrue}
use Rattle.tao_schema.specs.declared.schema.Schema.{Schema}
use Rattle.topology.specs.Named.{in_range}
use Rattle.topology.specs.declared.regions.Region.{Region}

-- a configuration: the schema, how many shards there are, the regions, the master regions, which the shards take in turn,
-- the most entries of a shard's log, and the most items of a cache node
pub record Settings : Type 0 where
  pub schema : Schema
  pub shards : ℕ
  pub regions : List Region
  pub masters : List ℕ
  pub log_max : ℕ
  pub cache_items : ℕ

-- each number is in its range, and each master is one of the regions
pub record KeepRules (settings : Settings) : Type 0 where
  pub shards : IsTrue (in_range 1 64 settings.shards)
  pub masters : All (λ place. place < length settings.regions) settings.masters
  pub log_max : IsTrue (in_range 1 65536 settings.log_max)
  pub cache_items : IsTrue (in_range 1 65536 settings.cache_items)
