-- Each region, tier, node, shard and key that a checked request names is configured.
use Rattle.std.proofs.Common.{IfOk}
use Rattle.requests.specs.declared.plans.PlanRequest.{PlanRequest}
use Rattle.requests.specs.declared.plans.PlanRequest.TheVariants as plan
use Rattle.requests.specs.declared.request.Request.{Request}
use Rattle.requests.specs.declared.request.Request.TheVariants as request
use Rattle.topology.specs.Config.{Settings}
use Rattle.request_check.specs.Caches.{checked_cache}
use Rattle.request_check.specs.Calls.{checked_call}
use Rattle.request_check.specs.Health.{checked_health}
use Rattle.request_check.specs.Links.{checked_link}
use Rattle.request_check.specs.Names.{tier_named}
use Rattle.request_check.specs.Plans.{IsPlacedPlan, checked_plan}
use Rattle.request_check.specs.Requests.{IsPlaced, checked_of}
use Rattle.request_check.specs.Stores.{checked_store}
use Rattle.request_check.proofs.Placing.{andthen, call_placed, tier_placed, whatever}
use Rattle.request_check.proofs.PlacingCaches.{caches_placed}
use Rattle.request_check.proofs.PlacingHealth.{health_placed}
use Rattle.request_check.proofs.PlacingStores.{stores_placed}

module _ (s : Settings) where
  plan_placed : (asked : PlanRequest) → IfOk (checked_plan s asked) (IsPlacedPlan s)
  plan_placed (plan.Hold number text) = andthen _ _ (checked_call s text) _ (call_placed s text) (λ c here. here)
  plan_placed (plan.Advance number) = tt

  pub placed : (asked : Request) → IfOk (checked_of s asked) (IsPlaced s)
  placed (request.Open opening) = andthen _ _ (tier_named s opening.region opening.tier) _ (tier_placed s opening.region opening.tier) (λ found here. here)
  placed (request.Call text) = andthen _ _ (checked_call s text) _ (call_placed s text) (λ c here. here)
  placed (request.Plan asked) = andthen _ _ (checked_plan s asked) _ (plan_placed asked) (λ c here. here)
  placed (request.Cache asked) = andthen _ _ (checked_cache s asked) _ (caches_placed s asked) (λ c here. here)
  placed (request.Store asked) = andthen _ _ (checked_store s asked) _ (stores_placed s asked) (λ c here. here)
  placed (request.Health asked) = andthen _ _ (checked_health s asked) _ (health_placed s asked) (λ c here. here)
  placed (request.Link asked) = whatever _ (checked_link s asked) _ (λ c. tt)
