-- What a cluster was made with.
use Rattle.std.specs.Prelude.{ℕ, []}
use Rattle.topology.specs.Config.{Settings}

-- the configuration, and of each shard, when the cluster was made, how many entries its log had, and how many of these were old
pub record Making : Type 0 where
  pub settings : Settings
  pub begun : ℕ → ℕ
  pub cut : ℕ → ℕ

-- what stands where no cluster was picked
abbrev pub unmade : Making
unmade = record {
  settings = record { schema = record { objects = []; assocs = [] }; shards = 0; regions = []; masters = []; log_max = 0; cache_items = 0 };
  begun = λ shard. 0;
  cut = λ shard. 0;
}
