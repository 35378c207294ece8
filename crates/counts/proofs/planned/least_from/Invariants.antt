use Rattle.std.specs.List.{AllWithin}
use Rattle.std.proofs.Common.{◌≤◌}
use Rattle.counts.proofs.planned.least_from.Given as goal

abbrev pub invariant-loop-number : goal.invariant-loop-number
invariant-loop-number l = AllWithin (λ n. l.from ≤ n → l.least ≤ n) l.numbers 0 l.number-index
