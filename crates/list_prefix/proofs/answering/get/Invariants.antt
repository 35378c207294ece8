use Rattle.std.proofs.Common.{◌≡◌, map, take}
use Rattle.std.specs.Prelude.{filter}
use Rattle.list_prefix.specs.Spans.{is_wanted}
use Rattle.list_prefix.proofs.answering.get.Given as goal

abbrev pub invariant-loop-item : goal.invariant-loop-item
invariant-loop-item g l = l.given.items ≡ filter (is_wanted l.ids l.low l.high) (map g.E.AsEdge.edge (take l.item-index l.edges))
