-- What is asked of stores is of regions and shards of the configuration.
use Rattle.std.proofs.Common.{ℕ, List, IfOk}
use Rattle.requests.specs.declared.stores.StoreRequest.{StoreRequest}
use Rattle.requests.specs.declared.stores.StoreRequest.TheVariants as request
use Rattle.topology.specs.Config.{Settings}
use Rattle.request_check.specs.Calls.{checked_read_call}
use Rattle.request_check.specs.Names.{configured_shard, region_named, store_named}
use Rattle.request_check.specs.Stores.{IsPlacedAt, IsPlacedStore, checked_store}
use Rattle.request_check.proofs.Placing.{andthen, read_call_placed, region_placed, shard_placed}

module _ (s : Settings) where
  store_placed : (name : List ℕ) (shard : ℕ) → IfOk (store_named s name shard) (λ store. IsPlacedAt s store.region store.shard)
  store_placed name shard = andthen _ _ (region_named s name) _ (region_placed s name)
      (λ r here. andthen _ _ (configured_shard s shard) _ (shard_placed s shard) (λ u there. (here, there)))

  pub stores_placed : (asked : StoreRequest) → IfOk (checked_store s asked) (IsPlacedStore s)
  stores_placed (request.Stream region shard position) = andthen _ _ (store_named s region shard) _ (store_placed region shard) (λ store here. here)
  stores_placed (request.Trim region shard position) = andthen _ _ (store_named s region shard) _ (store_placed region shard) (λ store here. here)
  stores_placed (request.Repair shard) = andthen _ _ (configured_shard s shard) _ (shard_placed s shard) (λ u here. here)
  stores_placed request.Settle = tt
  stores_placed (request.Audit text) = andthen _ _ (checked_read_call s text) _ (read_call_placed s text) (λ r here. here)
