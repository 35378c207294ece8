-- Ids that were met while edges are held to the order of lists, from the last one on.
use Rattle.std.specs.Prelude.{◌≡◌, List, true}
use Rattle.std.specs.BTreeSet.{BTreeSet, contains}
use Rattle.std.specs.List.{AllByRecursion}
use Rattle.std.specs.Ordering.{nat_cmp}
use Rattle.tao_base.specs.declared.edge.Edge.{Edge}
use Rattle.tao_base.specs.declared.id.Id.{Id}
use Rattle.graph_model.specs.Edges.{IsInListOrder}

-- the edges stand in order, and each goes to an id that was met
pub record IsMet (met : BTreeSet Id) (edges : List Edge) : Type 0 where
  pub in_order : IsInListOrder edges
  pub ids : AllByRecursion (λ e. contains nat_cmp met e.id2 ≡ true) edges
