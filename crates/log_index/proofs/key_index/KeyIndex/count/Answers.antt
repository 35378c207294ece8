use Rattle.std.proofs.Common.{ap, length}
use Rattle.log_index.proofs.KeyLemmas.{not_found}
use Rattle.log_index.proofs.key_index.KeyIndex.count.Goals as goal

pub returns-in-None : goal.returns-in-None
returns-in-None c = ap (λ s. length s.list.edges) (not_found c.args.self.now.keys c.args.key c.in-None.ensures)
