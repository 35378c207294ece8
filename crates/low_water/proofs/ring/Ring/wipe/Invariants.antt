use Rattle.std.proofs.Common.{◌≡◌, ℕ, ◌≤◌, ◌<◌, false}
use Rattle.low_water.specs.RingWords.{bit, IsClearAbove}
use Rattle.low_water.proofs.ring.Ring.wipe.Given as goal

abbrev pub invariant-loop-position : goal.invariant-loop-position
invariant-loop-position l = record {
  done : (q : ℕ) → l.low < q → q ≤ l.position → bit l.self q ≡ false;
  above : IsClearAbove l.self l.low l.top;
}
