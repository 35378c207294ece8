-- The hands of a thread.
use Rattle.std.specs.Prelude.{All, List}
use Rattle.node_name.specs.declared.NodeName.{NodeName}
use Rattle.shared_tiers.specs.cluster_pumps.Hands.{IsNodeIn, SeenHand}
use Rattle.topology.specs.Config.{Settings}

-- each hand is such
abbrev pub EachHand : (SeenHand → Type 0) → List SeenHand → Type 0
EachHand Is hands = All Is hands

-- each of the nodes is one of the configuration's
abbrev pub AreNodesIn : Settings → List NodeName → Type 0
AreNodesIn s nodes = All (IsNodeIn s) nodes
