use Rattle.std.specs.List.{AllWithin}
use Rattle.unlocked_nodes.specs.Looking.{IsNumberWithin}
use Rattle.unlocked_nodes.proofs.numbers.touches_fit.Given as goal

-- those so far have none above it
abbrev pub invariant-loop-touch : goal.invariant-loop-touch
invariant-loop-touch l = AllWithin (IsNumberWithin l.limit) l.touches 0 l.touch-index
