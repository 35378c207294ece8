use Rattle.std.proofs.Common.{◌≡◌, map, take}
use Rattle.list_prefix.proofs.answering.copies_of.Given as goal

abbrev pub invariant-loop-item : goal.invariant-loop-item
invariant-loop-item g l = l.copies.items ≡ map g.E.AsEdge.edge (take l.item-index l.edges)
