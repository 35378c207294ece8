use Rattle.std.proofs.Common.{◌∙◌, sym}
use Rattle.list_index.proofs.StandingLemmas.{none_taken}
use Rattle.list_index.proofs.table.cut.Goals as goal

pub returns-in_default : goal.returns-in_default
returns-in_default c = none_taken c.args.id2 c.args.edges.now (c.requires c.args.id2 ∙ sym c.in_default.ensures)
