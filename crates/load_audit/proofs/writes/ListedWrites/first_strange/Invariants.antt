use Rattle.std.specs.List.{AllWithin}
use Rattle.load_audit.specs.Listed.{IsKnown}
use Rattle.load_audit.proofs.writes.ListedWrites.first_strange.Given as goal

abbrev pub invariant-loop-place : goal.invariant-loop-place
invariant-loop-place l = AllWithin (IsKnown l.self) l.log 0 l.place
