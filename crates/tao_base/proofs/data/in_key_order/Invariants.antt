-- the map has the pairs so far, in order
use Rattle.std.proofs.Common.{◌≡◌, map}
use Rattle.tao_base.specs.Data.{in_order, pair_of}
use Rattle.tao_base.proofs.data.in_key_order.Given as goal

abbrev pub invariant-loop-key : goal.invariant-loop-key
invariant-loop-key l = map pair_of l.values.entries ≡ in_order (map pair_of l.yielded)
