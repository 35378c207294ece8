use Rattle.shared_tiers.specs.cluster_pumps.Hands.{IsHandOf}
use Rattle.cluster_hands.specs.Hands.{EachHand}
use Rattle.cluster_hands.proofs.hands.take_hands.Given as goal

abbrev pub invariant-loop-region : goal.invariant-loop-region
invariant-loop-region g l = EachHand (IsHandOf g.J.Sharing.making l.cluster) l.hands.items
