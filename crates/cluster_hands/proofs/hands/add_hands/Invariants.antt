use Rattle.shared_tiers.specs.cluster_pumps.Hands.{IsHandOf}
use Rattle.cluster_hands.specs.Hands.{EachHand}
use Rattle.cluster_hands.proofs.hands.add_hands.Given as goal

abbrev pub invariant-loop-node : goal.invariant-loop-node
invariant-loop-node g l = EachHand (IsHandOf g.J.Sharing.making l.cluster) l.hands.items
