use Rattle.std.proofs.Common.{◌≡◌, ℕ, ◌<◌, ◌≤◌, ◌-◌, true, false, take}
use Rattle.graph_model.specs.Prefixes.{decides}
use Rattle.list_prefix.proofs.fronts.first_deciding.Given as goal

abbrev pub invariant-loop-low : goal.invariant-loop-low
invariant-loop-low l = record {
  ordered : l.low ≤ l.high;
  within : l.high ≤ l.most;
  decided : decides l.bound (take l.high l.edges) l.total l.query ≡ true;
  open_below : (fewer : ℕ) → fewer < l.low → decides l.bound (take fewer l.edges) l.total l.query ≡ false;
}

abbrev pub decreases-loop-low : goal.decreases-loop-low
decreases-loop-low l = l.high - l.low
