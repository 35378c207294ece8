-- The leaders and followers of a configuration are nodes of it.
use Rattle.std.specs.Prelude.{All}
use Rattle.core_model.proofs.NamesOnce.{follower_is_cache, leader_is_cache}
use Rattle.core_model.specs.Evictions.{IsCacheOf}
use Rattle.core_model.specs.Fleet.{follower_names, leader_names}
use Rattle.graph_model.proofs.Members.{All-from_in}
use Rattle.node_name.specs.declared.NodeName.{NodeName}
use Rattle.node_name.specs.declared.NodeName.TheVariants.{Follower, Leader, Store}
use Rattle.shared_tiers.specs.cluster_pumps.Hands.{IsNodeIn}
use Rattle.topology.specs.Config.{Settings}
use Rattle.cluster_hands.specs.Hands.{AreNodesIn}

is_node : (s : Settings) (name : NodeName) → IsCacheOf s name → IsNodeIn s name
is_node s (Leader region index) is = is
is_node s (Follower region tier index) is = is
is_node s (Store at) is = absurd is

pub leaders_are : (s : Settings) → AreNodesIn s (leader_names s)
leaders_are s = All-from_in (IsNodeIn s) (leader_names s) (λ name h. is_node s name (leader_is_cache s name h))

pub followers_are : (s : Settings) → AreNodesIn s (follower_names s)
followers_are s = All-from_in (IsNodeIn s) (follower_names s) (λ name h. is_node s name (follower_is_cache s name h))
