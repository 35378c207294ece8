use Rattle.std.proofs.Common.{subst, sym}
use Rattle.std.specs.Prelude.{IfOk}
use Rattle.tao_base.specs.declared.entry.Change.{Change}
use Rattle.tao_base.specs.declared.entry.Change.TheVariants.{CutEdge, SetEdge}
use Rattle.list_index.specs.ListState.{ListIsAfter}
use Rattle.list_index.proofs.StandingLemmas.{at_was}
use Rattle.list_index.proofs.table.EdgeTable.after.Goals as goal

pub returns-in-SetEdge : goal.returns-in-SetEdge
returns-in-SetEdge c =
    subst (λ (change : Change). IfOk c.with_edge.result (λ table. ListIsAfter change c.args.self table)) (sym c.in-SetEdge.is)
    (at_was c.with_edge.result (λ was table. ListIsAfter (SetEdge c.in-SetEdge.edge was) c.args.self table) c.in-SetEdge.was c.with_edge.ensures)

pub returns-in-CutEdge : goal.returns-in-CutEdge
returns-in-CutEdge c =
    subst (λ (change : Change). IfOk c.with_cut.result (λ table. ListIsAfter change c.args.self table)) (sym c.in-CutEdge.is)
    (at_was c.with_cut.result (λ was table. ListIsAfter (CutEdge c.in-CutEdge.id2 c.in-CutEdge.stamp was) c.args.self table) c.in-CutEdge.was
    c.with_cut.ensures)
