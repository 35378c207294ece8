use Rattle.std.proofs.Common.{◌≡◌, map, take}
use Rattle.graph_model.specs.Edges.{live_edges, newest_first}
use Rattle.plain_graph.proofs.lists.table_after_all.Given as goal

abbrev pub invariant-loop-change : goal.invariant-loop-change
invariant-loop-change l = l.table.edges ≡ newest_first (live_edges (map (λ c. c.now) (take l.change-index l.changes)))
