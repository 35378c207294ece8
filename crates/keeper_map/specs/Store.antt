-- The tables that the keeper in memory holds.
use Rattle.std.specs.Prelude.{ℕ}
use Rattle.std.specs.BTreeMap.{BTreeMap, get}
use Rattle.std.specs.Option.{option_map, option_map_or}
use Rattle.std.specs.Ordering.{nat_cmp, ordering_then}
use Rattle.std.specs.declared.cmp.Ordering.{Ordering}
use Rattle.tao_base.specs.declared.id.StoreName.{StoreName}
use Rattle.tao_keeper.specs.Table.{Table, Tables, empty_table}
use Rattle.keeper_map.specs.OpenJobs.{jobs_of}
use Rattle.keeper_map.specs.declared.store.StoreTable.{StoreTable}

-- the table of a store, as contracts see it: its log and its cut, its open jobs, the line that it was first opened with, what promotions took away, and
-- the epoch and the master region of its shard
abbrev pub table_of : StoreTable → Table
table_of store = record {
  log = store.log;
  cut = store.cut;
  jobs = jobs_of store.jobs;
  line = option_map (λ line. line.items) store.line;
  lost = store.lost.items;
  role = store.role;
}

-- what a store's table is found by: its region and its shard. It stays folded, so that a fact of all stores is found for each one
unfoldable pub store_key : StoreName → ℕ × ℕ
store_key name = (name.region, name.shard)

-- stores are in the order of their regions, then of their shards
abbrev pub store_cmp : ℕ × ℕ → ℕ × ℕ → Ordering
store_cmp x y = ordering_then (nat_cmp x.0 y.0) (nat_cmp x.1 y.1)

-- the tables of all stores: a store that has none yet is empty
abbrev pub tables_of : BTreeMap (ℕ × ℕ) StoreTable → Tables
tables_of stores name = option_map_or table_of (get store_cmp stores (store_key name)) empty_table
