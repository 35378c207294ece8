-- Laws of association lists.
use Rattle.std.specs.Prelude.{ℕ, List, ◌≡◌}
use Rattle.tao_base.specs.declared.edge.Edge.{Edge}
use Rattle.tao_base.specs.declared.id.Id.{Id}
use Rattle.tao_base.specs.declared.id.AType.{AType}
use Rattle.tao_base.specs.declared.id.Key.TheVariants.{List as Assocs}
use Rattle.tao_base.specs.declared.entry.Entry.{Entry}
use Rattle.graph_model.specs.Answers.{range}
use Rattle.graph_model.specs.Edges.{IsEdgeList, IsInListOrder, edge_list}
use Rattle.graph_model.specs.Log.{changes_of}

-- the list is the only one that the law of a list allows
pub record ListIsTheOnlyOne (log : List Entry) (id1 : Id) (atype : AType) : Type 0 where
  pub is_one : IsEdgeList (changes_of log (Assocs id1 atype)) (edge_list log id1 atype)
  pub only : (edges : List Edge) → IsEdgeList (changes_of log (Assocs id1 atype)) edges → edges ≡ edge_list log id1 atype

-- each stretch of a list, the whole included, is in order
abbrev pub StretchesAreInOrder : List Entry → Id → AType → Type 0
StretchesAreInOrder log id1 atype = (pos most : ℕ) → IsInListOrder (range pos most (edge_list log id1 atype))
