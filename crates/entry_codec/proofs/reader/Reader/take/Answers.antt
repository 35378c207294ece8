use Rattle.std.proofs.Common.{arith}
use Rattle.entry_codec.proofs.Codecs.{bytes-drop}
use Rattle.entry_codec.proofs.reader.Reader.take.Goals as goal

pub invariant_of-self : goal.invariant_of-self
invariant_of-self c = (omega (arith, c.split_at.ensures.back_len), rw c.split_at.ensures.back (bytes-drop c.args.len c.self.inside.left.now c.self.invariant.1))
