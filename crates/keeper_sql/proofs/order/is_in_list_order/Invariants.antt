use Rattle.std.proofs.Common.{◌≤◌, drop, length}
use Rattle.keeper_sql.specs.MetIds.{IsMet}
use Rattle.keeper_sql.proofs.order.is_in_list_order.Given as goal

abbrev pub invariant-loop-at : goal.invariant-loop-at
invariant-loop-at l = record { within : l.at ≤ length l.edges; met : IsMet l.met (drop l.at l.edges) }

abbrev pub decreases-loop-at : goal.decreases-loop-at
decreases-loop-at l = l.at
