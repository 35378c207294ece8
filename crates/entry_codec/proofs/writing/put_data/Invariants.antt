-- the number of the pairs, and the pairs so far
use Rattle.entry_codec.specs.Values.{PairFits}
use Rattle.std.proofs.Common.{◌≡◌, All, take, length, ◌++◌, ◌∷◌, [], flat_map}
use Rattle.tao_base.specs.Data.{pair_bytes}
use Rattle.entry_codec.proofs.writing.put_data.Given as goal

abbrev pub invariant-loop-pair : goal.invariant-loop-pair
invariant-loop-pair l = (l.out.items ≡ (l.fn.out.items ++ length l.pairs ∷ []) ++ flat_map pair_bytes (take l.pair-index l.pairs))
    × All PairFits (take l.pair-index l.pairs)
