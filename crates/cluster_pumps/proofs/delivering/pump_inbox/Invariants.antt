use Rattle.std.proofs.Common.{◌≡◌}
use Rattle.cluster_pumps.proofs.delivering.pump_inbox.Given as goal

-- the pass is as it was
abbrev pub invariant-loop : goal.invariant-loop
invariant-loop g l = record {
  goes_on : (goal.iterator-loop g).can_next l.iterator' × (goal.iterator-loop g).is_finite l.iterator';
  same : l.pass ≡ l.fn.pass;
}
