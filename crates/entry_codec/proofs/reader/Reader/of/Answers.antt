use Rattle.std.proofs.Common.{arith}
use Rattle.entry_codec.proofs.reader.Reader.of.Goals as goal

pub invariant_of-result : goal.invariant_of-result
invariant_of-result c = (omega arith, λ i. omega (arith, c.type_inv.bytes i))
