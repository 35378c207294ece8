use Rattle.shared_tiers.specs.cluster_pumps.Hands.{IsHandOf}
use Rattle.cluster_hands.specs.Hands.{EachHand}
use Rattle.cluster_server.proofs.pumping.pump_by.Given as goal

abbrev pub invariant-loop : goal.invariant-loop
invariant-loop g l = EachHand (IsHandOf g.J.Sharing.making l.cluster) l.hands
