use Rattle.std.proofs.Common.{◌≡◌, map, take}
use Rattle.list_index.proofs.edges.copies_of.Given as goal

abbrev pub invariant-loop-edge : goal.invariant-loop-edge
invariant-loop-edge l = l.copies.items ≡ map (λ e. e.now) (take l.edge-index l.edges)
