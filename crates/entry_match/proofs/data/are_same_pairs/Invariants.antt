use Rattle.std.proofs.Common.{◌≡◌, ℕ, ◌<◌, length, get_or}
use Rattle.tao_base.specs.declared.data.Pair.{Pair}
use Rattle.entry_match.proofs.data.are_same_pairs.Given as goal

abbrev pub invariant-loop-pair : goal.invariant-loop-pair
invariant-loop-pair l = (k : ℕ) (d : Pair) → k < length l.yielded → get_or l.pairs k d ≡ get_or l.others k d
