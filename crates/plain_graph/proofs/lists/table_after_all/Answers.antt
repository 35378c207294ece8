use Rattle.plain_graph.proofs.Listed.{list_more}
use Rattle.plain_graph.proofs.lists.table_after_all.Goals as goal

pub loop-change-preserved : goal.loop-change-preserved
loop-change-preserved c =
    list_more c.args.changes.now c.loop-change.change-index c.change-item.result _ _ c.loop-change-test.true c.change-item.is c.loop-change.invariant
    c.in_ok-table.ensures.edges_are
