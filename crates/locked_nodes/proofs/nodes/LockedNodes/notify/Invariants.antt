use Rattle.std.proofs.Common.{◌≡◌}
use Rattle.locked_nodes.proofs.nodes.LockedNodes.notify.Given as goal

-- the note stays as it was
abbrev pub invariant-loop-tier : goal.invariant-loop-tier
invariant-loop-tier g l = l.note ≡ l.fn.note
