use Rattle.std.proofs.Common.{take}
use Rattle.log_index.specs.IndexOf.{IsIndexOf}
use Rattle.log_index.proofs.index.Index.of.Given as goal

abbrev pub invariant-loop-place : goal.invariant-loop-place
invariant-loop-place l = IsIndexOf (take l.place l.entries) l.index
