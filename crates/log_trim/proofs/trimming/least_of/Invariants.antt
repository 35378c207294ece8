use Rattle.std.proofs.Common.{◌≡◌, ◌≤◌, drop}
use Rattle.log_trim.specs.Trimming.{least_of}
use Rattle.log_trim.proofs.trimming.least_of.Given as goal

abbrev pub invariant-loop-mark : goal.invariant-loop-mark
invariant-loop-mark l = record {
  value : least_of l.least (drop l.mark-index l.marks) ≡ least_of l.fn.number l.marks;
  within : l.least ≤ l.fn.number;
}
