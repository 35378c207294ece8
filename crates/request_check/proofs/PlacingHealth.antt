-- What changes the health of nodes is of nodes and tiers of the configuration.
use Rattle.std.proofs.Common.{◌≡◌, true, IfOk, refl}
use Rattle.node_name.specs.declared.NodeName.{NodeName}
use Rattle.node_name.specs.declared.NodeName.TheVariants as name
use Rattle.requests.specs.declared.health.HealthRequest.{HealthRequest}
use Rattle.requests.specs.declared.health.HealthRequest.TheVariants as request
use Rattle.requests.specs.declared.health.LeaderName.{LeaderName}
use Rattle.topology.specs.Config.{Settings}
use Rattle.request_check.specs.Health.{IsPlacedHealth, IsPlacedLeader, checked_health, leader_place}
use Rattle.request_check.specs.Kind.{takes}
use Rattle.request_check.specs.Names.{node_named, tier_named}
use Rattle.request_check.specs.declared.kind.NodeKind.TheVariants.{Cache, Leader}
use Rattle.request_check.proofs.PlacedNodes.{node_placed}
use Rattle.request_check.proofs.Placing.{andthen, tier_placed}
use Rattle.request_check.proofs.PlacingCaches.{cache_placed}

module _ (s : Settings) where
  leads_cache : (node : NodeName) → takes Leader node ≡ true → takes Cache node ≡ true
  leads_cache (name.Store store) is = is
  leads_cache (name.Leader region index) is = refl
  leads_cache (name.Follower region tier index) is = refl

  leader_placed : (leader : LeaderName) → IfOk (leader_place s leader) (IsPlacedLeader s)
  leader_placed leader = andthen _ _ (tier_named s leader.region leader.tier) _ (tier_placed s leader.region leader.tier) (λ found seen.
      andthen _ _ (node_named s Leader leader.node) _ (node_placed s Leader leads_cache leader.node) (λ node here.
      record { seer = seen; configured = here.0; leads = here.1 }))

  pub health_placed : (asked : HealthRequest) → IfOk (checked_health s asked) (IsPlacedHealth s)
  health_placed (request.Down name) = cache_placed s _ name _ (λ node here. here)
  health_placed (request.Up name) = cache_placed s _ name _ (λ node here. here)
  health_placed (request.Suspect leader) = andthen _ _ (leader_place s leader) _ (leader_placed leader) (λ place here. here)
  health_placed (request.Trust leader) = andthen _ _ (leader_place s leader) _ (leader_placed leader) (λ place here. here)
