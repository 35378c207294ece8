-- Cached items stay exact: while the log grows, from touch to touch, and as a beginning of the log gives them.
use Rattle.std.specs.Prelude.{ℕ, List, length, take, Option, ◌++◌, ◌≡◌, ◌+◌}
use Rattle.tao_base.specs.declared.edge.Edge.{Edge}
use Rattle.tao_base.specs.declared.edge.Object.{Object}
use Rattle.tao_base.specs.declared.entry.Entry.{Entry}
use Rattle.tao_base.specs.declared.entry.Touch.{Touch}
use Rattle.tao_base.specs.declared.id.AType.{AType}
use Rattle.tao_base.specs.declared.id.Id.{Id}
use Rattle.tao_base.specs.declared.id.Key.TheVariants.{Obj, List as Assocs}
use Rattle.graph_model.specs.Edges.{edge_list}
use Rattle.graph_model.specs.Log.{IsTouchOf, object, object_after, version}
use Rattle.graph_model.specs.Prefixes.{IsExactList, IsExactObject, edges_after, total_after}
use Rattle.graph_model.specs.Soundness.{IsSound}

-- an item that is exact stays exact in a longer log
pub record ExactStays (log more : List Entry) : Type 0 where
  pub object_stays : (id : Id) (v : ℕ) (found : Option Object) → IsExactObject log id v found → IsExactObject (log ++ more) id v found
  pub list_stays : (id1 : Id) (atype : AType) (v : ℕ) (edges : List Edge) (total : ℕ)
      → IsExactList log id1 atype v edges total → IsExactList (log ++ more) id1 atype v edges total

-- what a beginning of the log gives is exact at its version: the object, and the first edges of a list with its length
pub record BeginningIsExact (log : List Entry) (n : ℕ) : Type 0 where
  pub object_is : (id : Id) → IsExactObject log id (version (take n log) (Obj id)) (object (take n log) id)
  pub list_is : (id1 : Id) (atype : AType) (count : ℕ)
      → IsExactList log id1 atype (version (take n log) (Assocs id1 atype))
      (take count (edge_list (take n log) id1 atype)) (length (edge_list (take n log) id1 atype))

-- a touch takes an item that is exact at the version below its own to one that is exact at its own
pub record ExactFollows (log : List Entry) (t : Touch) : Type 0 where
  pub object_follows : IsSound log → IsTouchOf log t → (id : Id) (v : ℕ) (found : Option Object) → t.key ≡ Obj id → t.version ≡ v + 1
      → IsExactObject log id v found → IsExactObject log id (v + 1) (object_after t.change found)
  pub list_follows : IsSound log → IsTouchOf log t → (id1 : Id) (atype : AType) (bound v : ℕ) (edges : List Edge) (total : ℕ)
      → t.key ≡ Assocs id1 atype → t.version ≡ v + 1
      → IsExactList log id1 atype v edges total
      → IsExactList log id1 atype (v + 1) (take bound (edges_after t.change edges total)) (total_after t.change total)
