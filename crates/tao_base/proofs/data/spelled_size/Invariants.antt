-- the pairs so far, and the byte of their number
use Rattle.std.proofs.Common.{◌≡◌, length, ◌+◌, take, flat_map}
use Rattle.tao_base.specs.Data.{pair_bytes}
use Rattle.tao_base.proofs.data.spelled_size.Given as goal

abbrev pub invariant-loop-pair : goal.invariant-loop-pair
invariant-loop-pair l = l.size ≡ 1 + length (flat_map pair_bytes (take l.pair-index l.pairs))
