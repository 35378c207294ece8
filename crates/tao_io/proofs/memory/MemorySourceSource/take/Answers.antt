use Rattle.std.proofs.Common.{rules}
use Rattle.tao_io.proofs.Known.{took_front}
use Rattle.tao_io.proofs.memory.MemorySourceSource.take.Goals as goal

pub returns-clause-bytes : goal.returns-clause-bytes
returns-clause-bytes c =
    rw (← c.self.view_is) (took_front c.self.inside.bytes.items c.copy_front-count.new.into c.self.inside.at c.copy_front-count.result (search rules)
    (search rules))
