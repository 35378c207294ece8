use Rattle.std.proofs.Common.{ap}
use Rattle.list_index.specs.ListState.{record_to}
use Rattle.log_index.proofs.KeyLemmas.{not_found}
use Rattle.log_index.proofs.key_index.KeyIndex.record.Goals as goal

pub returns-in-None : goal.returns-in-None
returns-in-None c = ap (λ s. record_to s.list c.args.id2) (not_found c.args.self.now.keys c.args.key c.in-None.ensures)
