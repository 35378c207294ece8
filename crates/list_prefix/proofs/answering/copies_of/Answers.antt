use Rattle.std.proofs.Common.{rules}
use Rattle.std.proofs.lemmas.List.{map_more}
use Rattle.list_prefix.proofs.answering.copies_of.Goals as goal

pub loop-item-preserved : goal.loop-item-preserved
loop-item-preserved g c =
    rw (map_more g.E.AsEdge.edge c.args.edges.now c.loop-item.item-index c.item-item.result c.loop-item-test.true) (search rules)
