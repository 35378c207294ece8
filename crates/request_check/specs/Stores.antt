-- What is asked of stores: the region first, then the shard.
use Rattle.std.specs.Prelude.{ℕ, ◌<◌, length, Result, Ok, ⊤}
use Rattle.tao_base.specs.Queries.{query_key}
use Rattle.topology.specs.Config.{Settings}
use Rattle.replies.specs.declared.refusals.NameRefused.{NameRefused}
use Rattle.requests.specs.declared.stores.StoreRequest.{StoreRequest}
use Rattle.requests.specs.declared.stores.StoreRequest.TheVariants as request
use Rattle.request_check.specs.declared.stores.CheckedStore.{CheckedStore}
use Rattle.request_check.specs.declared.stores.CheckedStore.TheVariants as checked
use Rattle.request_check.specs.Calls.{checked_read_call}
use Rattle.request_check.specs.Names.{configured_shard, placed_as, store_named}
use Rattle.request_check.specs.Placed.{IsPlacedKey}
use Rattle.outcomes.specs.Results.{◌>>=◌}

-- a `repair` with its shard checked; whether a job is open there isn't looked at
abbrev pub checked_repair : Settings → ℕ → Result CheckedStore NameRefused
checked_repair s shard = do
  there ← configured_shard s shard
  Ok (checked.Repair shard)

-- what is asked of stores, with what it names looked up: each word has its row. A `stream` without a position is about the entry that the store takes
-- next; whether an entry stands at a position isn't looked at
abbrev pub checked_store : Settings → StoreRequest → Result CheckedStore NameRefused
checked_store s (request.Stream region shard position) = placed_as (λ store. checked.Stream store.region store.shard position) (store_named s region shard)
checked_store s (request.Trim region shard position) = placed_as (λ store. checked.Trim store.region store.shard position) (store_named s region shard)
checked_store s (request.Repair shard) = checked_repair s shard
checked_store s request.Settle = Ok checked.Settle
checked_store s (request.Audit read) = placed_as checked.Audit (checked_read_call s read)

-- the store's region and its shard are the configuration's
abbrev pub IsPlacedAt : Settings → ℕ → ℕ → Type 0
IsPlacedAt s region shard = (region < length s.regions) × (shard < s.shards)

-- each region and shard is configured
abbrev pub IsPlacedStore : Settings → CheckedStore → Type 0
IsPlacedStore s (checked.Stream region shard position) = IsPlacedAt s region shard
IsPlacedStore s (checked.Trim region shard position) = IsPlacedAt s region shard
IsPlacedStore s (checked.Repair shard) = shard < s.shards
IsPlacedStore s checked.Settle = ⊤
IsPlacedStore s (checked.Audit call) = IsPlacedKey s (query_key call.query)
