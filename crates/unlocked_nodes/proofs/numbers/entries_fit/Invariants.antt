use Rattle.std.specs.List.{AllWithin}
use Rattle.unlocked_nodes.specs.Looking.{AreNumbersWithin}
use Rattle.unlocked_nodes.proofs.numbers.entries_fit.Given as goal

-- those so far have none above it
abbrev pub invariant-loop-entry : goal.invariant-loop-entry
invariant-loop-entry l = AllWithin (AreNumbersWithin l.limit) l.entries 0 l.entry-index
