use Rattle.shared_tiers.specs.cluster_pumps.Hands.{IsHandOf}
use Rattle.cluster_hands.specs.Hands.{EachHand}
use Rattle.tao_busy.proofs.draining.drain.Given as goal

abbrev pub invariant-loop-place : goal.invariant-loop-place
invariant-loop-place g l = EachHand (IsHandOf g.J.Sharing.making l.cluster) l.hands.items
