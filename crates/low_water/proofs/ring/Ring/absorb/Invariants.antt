use Rattle.std.proofs.Common.{◌≡◌, ℕ, ◌+◌, ◌-◌, ◌≤◌, ◌<◌, true, false}
use Rattle.low_water.specs.RingWords.{bit}
use Rattle.low_water.proofs.ring.Ring.absorb.Given as goal

abbrev pub invariant-loop-at : goal.invariant-loop-at
invariant-loop-at l = record {
  from : l.low ≤ l.at;
  to : l.at ≤ l.top;
  gone : (q : ℕ) → l.low < q → q ≤ l.at → bit l.initial.self q ≡ true;
  rest : (q : ℕ) → l.at < q → q ≤ l.low + 1024 → bit l.self q ≡ bit l.initial.self q;
  fresh : (q : ℕ) → l.low + 1024 < q → q ≤ l.at + 1024 → bit l.self q ≡ false;
}

abbrev pub decreases-loop-at : goal.decreases-loop-at
decreases-loop-at l = l.top - l.at
