-- The tables of the master stores, seen as the logs and open jobs of all shards.
use Rattle.std.specs.Prelude.{ℕ, zero, suc, ◌≡◌, ◌+◌, if◌then◌else◌, List, [], ◌∷◌, None, nat_lt}
use Rattle.tao_base.specs.declared.entry.Entry.{Entry}
use Rattle.tao_base.specs.declared.id.StoreName.{StoreName}
use Rattle.write_model.specs.Merges.{Stores, no_epochs}
use Rattle.tao_keeper.specs.Table.{Tables}

-- how many shards there are, and the name of each one's master store
pub record Masters : Type 0 where
  pub shards : ℕ
  pub name : ℕ → StoreName
  pub of_shard : (shard : ℕ) → (name shard).shard ≡ shard

-- what a function gives of so many numbers from one on
abbrev pub each_shard : (ℕ → List Entry) → ℕ → ℕ → List (List Entry)
each_shard f from zero = []
each_shard f from (suc n) = f from ∷ each_shard f (from + 1) n

-- the log and the jobs that the tables give each shard. No store was ever promoted
abbrev pub stores_of : Masters → Tables → Stores
stores_of m tables = record {
  logs = each_shard (λ shard. (tables (m.name shard)).log) 0 m.shards;
  job = λ shard position. if nat_lt shard m.shards then (tables (m.name shard)).jobs position else None;
  epochs = no_epochs;
}
