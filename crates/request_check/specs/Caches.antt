-- What is asked of cache nodes: the node first, then the key.
use Rattle.std.specs.Prelude.{List, Option, None, Some, Result, Ok, IfSome, ℕ}
use Rattle.node_name.specs.declared.NodeName.{NodeName}
use Rattle.tao_base.specs.declared.id.Key.{Key}
use Rattle.tao_base.specs.declared.id.Key.TheVariants as of_key
use Rattle.topology.specs.Config.{Settings}
use Rattle.replies.specs.declared.refusals.NameRefused.{NameRefused}
use Rattle.requests.specs.declared.caches.CacheRequest.{CacheRequest}
use Rattle.requests.specs.declared.caches.CacheRequest.TheVariants as request
use Rattle.requests.specs.declared.caches.KeyName.{KeyName}
use Rattle.requests.specs.declared.caches.KeyName.TheVariants.{Object, List as Assocs}
use Rattle.request_check.specs.declared.caches.CheckedCache.{CheckedCache}
use Rattle.request_check.specs.declared.caches.CheckedCache.TheVariants as checked
use Rattle.request_check.specs.declared.kind.NodeKind.TheVariants.{Cache, Follower}
use Rattle.request_check.specs.Calls.{list_type}
use Rattle.request_check.specs.Names.{configured_id, node_named, placed_as}
use Rattle.request_check.specs.Placed.{IsPlacedFollower, IsPlacedKey, IsPlacedNode}
use Rattle.outcomes.specs.Results.{◌>>=◌}

-- what a cache holds an item of
abbrev pub key_named : Settings → KeyName → Result Key NameRefused
key_named s (Object id) = do
  there ← configured_id s id
  Ok (of_key.Obj id)
key_named s (Assocs list) = do
  atype ← list_type s list
  Ok (of_key.List list.id1 atype)

-- the key that a request names, if any: None where it names none
abbrev pub maybe_key_named : Settings → Option KeyName → Result (Option Key) NameRefused
maybe_key_named s None = Ok None
maybe_key_named s (Some name) = do
  key ← key_named s name
  Ok (Some key)

-- an `evict` with its cache node and key looked up by name; without a key it is about the item that was used least recently
abbrev pub checked_evict : Settings → List ℕ → Option KeyName → Result CheckedCache NameRefused
checked_evict s name given = do
  node ← node_named s Cache name
  key ← maybe_key_named s given
  Ok (checked.Evict node key)

-- a `show` with its cache node and key looked up by name, the node first
abbrev pub checked_show : Settings → List ℕ → KeyName → Result CheckedCache NameRefused
checked_show s name given = do
  node ← node_named s Cache name
  key ← key_named s given
  Ok (checked.Show node key)

-- what is asked of a cache node, with the node and the key looked up by name: each word has its row
abbrev pub checked_cache : Settings → CacheRequest → Result CheckedCache NameRefused
checked_cache s (request.Deliver name) = placed_as (λ node. checked.Deliver node name.message) (node_named s Cache name.node)
checked_cache s (request.Again name) = placed_as (λ node. checked.Again node name.message) (node_named s Cache name.node)
checked_cache s (request.Drop name) = placed_as (λ node. checked.Drop node name.message) (node_named s Cache name.node)
checked_cache s (request.Refill name) = placed_as checked.Refill (node_named s Follower name)
checked_cache s (request.Evict name key) = checked_evict s name key
checked_cache s (request.Show name key) = checked_show s name key
checked_cache s (request.Inbox name) = placed_as checked.Inbox (node_named s Cache name)

-- the node is a leader or follower of the configuration, a follower where a refill is asked of it, and the shard of a key is configured
abbrev pub IsPlacedCache : Settings → CheckedCache → Type 0
IsPlacedCache s (checked.Deliver node message) = IsPlacedNode s node
IsPlacedCache s (checked.Again node message) = IsPlacedNode s node
IsPlacedCache s (checked.Drop node message) = IsPlacedNode s node
IsPlacedCache s (checked.Refill node) = IsPlacedFollower s node
IsPlacedCache s (checked.Evict node key) = IsPlacedNode s node × IfSome key (IsPlacedKey s)
IsPlacedCache s (checked.Show node key) = IsPlacedNode s node × IsPlacedKey s key
IsPlacedCache s (checked.Inbox node) = IsPlacedNode s node
