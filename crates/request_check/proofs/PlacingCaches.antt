-- What is asked of cache nodes is of nodes and keys of the configuration.
use Rattle.std.proofs.Common.{◌≡◌, ℕ, true, List, Option, None, Some, Result, Ok, IfOk, IfSome, refl}
use Rattle.outcomes.specs.Results.{◌>>=◌}
use Rattle.node_name.specs.declared.NodeName.{NodeName}
use Rattle.node_name.specs.declared.NodeName.TheVariants as name
use Rattle.replies.specs.declared.refusals.NameRefused.{NameRefused}
use Rattle.requests.specs.declared.caches.CacheRequest.{CacheRequest}
use Rattle.requests.specs.declared.caches.CacheRequest.TheVariants as request
use Rattle.requests.specs.declared.caches.KeyName.{KeyName}
use Rattle.requests.specs.declared.caches.KeyName.TheVariants.{Object, List as Assocs}
use Rattle.topology.specs.Config.{Settings}
use Rattle.request_check.specs.Caches.{IsPlacedCache, checked_cache, key_named, maybe_key_named}
use Rattle.request_check.specs.Calls.{list_type}
use Rattle.request_check.specs.Kind.{takes}
use Rattle.request_check.specs.Names.{configured_id, node_named}
use Rattle.request_check.specs.Placed.{IsPlacedKey, IsPlacedNode}
use Rattle.request_check.specs.declared.kind.NodeKind.TheVariants.{Cache, Follower}
use Rattle.request_check.proofs.PlacedNodes.{node_placed}
use Rattle.request_check.proofs.Placing.{andthen, id_placed, list_placed}

module _ (s : Settings) where
  key_placed : (name : KeyName) → IfOk (key_named s name) (IsPlacedKey s)
  key_placed (Object id) = andthen _ _ (configured_id s id) _ (id_placed s id) (λ u here. here)
  key_placed (Assocs list) = andthen _ _ (list_type s list) _ (list_placed s list) (λ t here. here)

  maybe_key_placed : (name : Option KeyName) → IfOk (maybe_key_named s name) (λ key. IfSome key (IsPlacedKey s))
  maybe_key_placed None = tt
  maybe_key_placed (Some name) = andthen _ _ (key_named s name) _ (key_placed name) (λ key here. here)

  follows_cache : (node : NodeName) → takes Follower node ≡ true → takes Cache node ≡ true
  follows_cache (name.Store store) is = is
  follows_cache (name.Leader region index) is = refl
  follows_cache (name.Follower region tier index) is = refl

  -- what holds of a request of a cache node of the configuration
  pub cache_placed : {A : Type 0} (Q : A → Type 0) (name : List ℕ) (next : NodeName → Result A NameRefused)
      → ((node : NodeName) → IsPlacedNode s node → IfOk (next node) Q) → IfOk (node_named s Cache name >>= next) Q
  cache_placed Q name next holds = andthen _ _ (node_named s Cache name) next (node_placed s Cache (λ node is. is) name) (λ node here. holds node here.0)

  pub caches_placed : (asked : CacheRequest) → IfOk (checked_cache s asked) (IsPlacedCache s)
  caches_placed (request.Deliver name) = cache_placed _ name.node _ (λ node here. here)
  caches_placed (request.Again name) = cache_placed _ name.node _ (λ node here. here)
  caches_placed (request.Drop name) = cache_placed _ name.node _ (λ node here. here)
  caches_placed (request.Refill name) = andthen _ _ (node_named s Follower name) _ (node_placed s Follower follows_cache name)
      (λ node here. record { configured = here.0; follows = here.1 })
  caches_placed (request.Evict name key) =
      cache_placed _ name _ (λ node here. andthen _ _ (maybe_key_named s key) _ (maybe_key_placed key) (λ k there. (here, there)))
  caches_placed (request.Show name key) = cache_placed _ name _ (λ node here. andthen _ _ (key_named s key) _ (key_placed key) (λ k there. (here, there)))
  caches_placed (request.Inbox name) = cache_placed _ name _ (λ node here. here)
