use Rattle.std.proofs.Common.{◌≡◌, ◌+◌, ◌++◌, ◌≤◌, length}
use Rattle.std.specs.Vec.{vec_capacity, vec_len}
use Rattle.load_audit.specs.Kept.{keepers_in}
use Rattle.load_audit.proofs.kept.without_logs.Given as goal

-- those that were taken, with those that are left, are all, and there is room for these
abbrev pub invariant-loop-kept : goal.invariant-loop-kept
invariant-loop-kept g l = record {
  items : l.keepers.items ++ keepers_in l.kept-iterator.rest.items ≡ keepers_in l.fn.all.items;
  room : vec_len l.keepers + length l.kept-iterator.rest.items ≤ vec_capacity l.keepers;
}
