-- What a contract sees of a cached list.
use Rattle.std.specs.Prelude.{ℕ, ◌≤◌, List, length}
use Rattle.tao_base.specs.declared.edge.Edge.{Edge}
use Rattle.tao_base.specs.declared.entry.Entry.{Entry}
use Rattle.tao_base.specs.declared.id.AType.{AType}
use Rattle.tao_base.specs.declared.id.Id.{Id}
use Rattle.graph_model.specs.Edges.{IsInListOrder}
use Rattle.graph_model.specs.Prefixes.{IsExactList}

-- the first edges of a list, and how many edges the list has
pub record ListPrefix : Type 0 where
  pub edges : List Edge
  pub total : ℕ

-- the prefix with these first edges, of a list that has so many edges in total
abbrev pub list_prefix : List Edge → ℕ → ListPrefix
list_prefix edges total = record { edges = edges; total = total }

-- a list of that length can begin with the edges: they stand in the order of lists, and are no more
pub record CanBegin (edges : List Edge) (total : ℕ) : Type 0 where
  pub in_order : IsInListOrder edges
  pub within : length edges ≤ total

-- the prefix is exact at a version that the log has reached: the first edges of the list at that version, and its length. Any number of them is
abbrev pub IsExactPrefix : List Entry → Id → AType → ℕ → ListPrefix → Type 0
IsExactPrefix log id1 atype v p = IsExactList log id1 atype v p.edges p.total
