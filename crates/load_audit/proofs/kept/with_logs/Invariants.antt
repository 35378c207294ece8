use Rattle.std.proofs.Common.{◌≡◌, ◌+◌, ◌++◌, ◌≤◌, length}
use Rattle.std.specs.Vec.{vec_capacity, vec_len}
use Rattle.load_audit.specs.Kept.{keepers_in}
use Rattle.load_audit.proofs.kept.with_logs.Given as goal

-- those that were taken, with those that are left, are all, and there is room for these
abbrev pub invariant-loop-keeper : goal.invariant-loop-keeper
invariant-loop-keeper g l = record {
  items : keepers_in l.all.items ++ l.keeper-iterator.rest.items ≡ l.fn.keepers.items;
  room : vec_len l.all + length l.keeper-iterator.rest.items ≤ vec_capacity l.all;
}
