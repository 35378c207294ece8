use Rattle.std.proofs.Common.{◌≡◌, ℕ, ◌<◌, length, get_or}
use Rattle.tao_base.specs.declared.entry.Touch.{Touch}
use Rattle.entry_match.proofs.entries.are_same_touches.Given as goal

abbrev pub invariant-loop-touch : goal.invariant-loop-touch
invariant-loop-touch l = (k : ℕ) (d : Touch) → k < length l.yielded → get_or l.touches k d ≡ get_or l.others k d
