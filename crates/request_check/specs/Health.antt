-- What changes the health of nodes: of a leader that a tier sees its tier first.
use Rattle.std.specs.Prelude.{IsTrue, Result, Ok}
use Rattle.topology.specs.Config.{Settings}
use Rattle.replies.specs.declared.refusals.NameRefused.{NameRefused}
use Rattle.requests.specs.declared.health.HealthRequest.{HealthRequest}
use Rattle.requests.specs.declared.health.HealthRequest.TheVariants as request
use Rattle.requests.specs.declared.health.LeaderName.{LeaderName}
use Rattle.words.specs.declared.HealthWord.{HealthWord}
use Rattle.words.specs.declared.HealthWord.TheVariants.{Down, Up, Suspect, Trust}
use Rattle.request_check.specs.declared.health.CheckedHealth.{CheckedHealth}
use Rattle.request_check.specs.declared.health.CheckedHealth.TheVariants as checked
use Rattle.request_check.specs.declared.health.LeaderPlace.{LeaderPlace}
use Rattle.request_check.specs.declared.kind.NodeKind.TheVariants.{Cache, Leader}
use Rattle.request_check.specs.Names.{node_named, placed_as, tier_named}
use Rattle.request_check.specs.Placed.{IsPlacedNode, IsPlacedTier}
use Rattle.request_check.specs.Kind.{takes}
use Rattle.outcomes.specs.Results.{◌>>=◌}

-- a leader, and the tier that suspects or trusts it, looked up by name: the tier's region first, then the tier, then the leader
abbrev pub leader_place : Settings → LeaderName → Result LeaderPlace NameRefused
leader_place s leader = do
  found ← tier_named s leader.region leader.tier
  node ← node_named s Leader leader.node
  Ok (record { region = found.region; tier = found.tier; node = node })

-- what changes the health of a node, with the node looked up by name: each word has its row
abbrev pub checked_health : Settings → HealthRequest → Result CheckedHealth NameRefused
checked_health s (request.Down name) = placed_as checked.Down (node_named s Cache name)
checked_health s (request.Up name) = placed_as checked.Up (node_named s Cache name)
checked_health s (request.Suspect leader) = placed_as checked.Suspect (leader_place s leader)
checked_health s (request.Trust leader) = placed_as checked.Trust (leader_place s leader)

-- the word of a request that changes a node's health, once it was checked
abbrev pub checked_health_word : CheckedHealth → HealthWord
checked_health_word (checked.Down node) = Down
checked_health_word (checked.Up node) = Up
checked_health_word (checked.Suspect leader) = Suspect
checked_health_word (checked.Trust leader) = Trust

-- a tier of the configuration, and one of its leaders
pub record IsPlacedLeader (s : Settings) (place : LeaderPlace) : Type 0 where
  pub seer : IsPlacedTier s place.region place.tier
  pub configured : IsPlacedNode s place.node
  pub leads : IsTrue (takes Leader place.node)

-- each node is a leader or follower of the configuration, and each tier one of its tiers
abbrev pub IsPlacedHealth : Settings → CheckedHealth → Type 0
IsPlacedHealth s (checked.Down node) = IsPlacedNode s node
IsPlacedHealth s (checked.Up node) = IsPlacedNode s node
IsPlacedHealth s (checked.Suspect leader) = IsPlacedLeader s leader
IsPlacedHealth s (checked.Trust leader) = IsPlacedLeader s leader
