use Rattle.std.proofs.Common.{◌≡◌}
use Rattle.shared_tiers.specs.cluster_pumps.Hands.{IsHandOf}
use Rattle.cluster_hands.proofs.pumping.pump_out.Given as goal

-- the hand is as it was: each pump so far delivered something
abbrev pub invariant-loop-taken : goal.invariant-loop-taken
invariant-loop-taken g l = record {
  of_is : IsHandOf g.J.Sharing.making l.cluster l.hand;
  same : l.hand ≡ l.fn.hand;
}
