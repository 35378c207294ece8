-- The shortest front of a list's first edges that decides a query.
use Rattle.std.specs.Prelude.{ℕ, ◌≡◌, ◌<◌, ◌≤◌, true, false, List, length, min, take, Option, Some, None}
use Rattle.tao_base.specs.declared.edge.Edge.{Edge}
use Rattle.tao_base.specs.declared.query.Query.{Query}
use Rattle.graph_model.specs.Prefixes.{decides}
use Rattle.list_prefix.specs.ListPrefix.{ListPrefix, list_prefix}

-- the count is the least number of first edges that decides the query, and is within the bound
pub record IsShortest (bound : ℕ) (edges : List Edge) (total : ℕ) (query : Query) (count : ℕ) : Type 0 where
  pub within : count ≤ min (length edges) bound
  pub decided : decides bound (take count edges) total query ≡ true
  pub least : (fewer : ℕ) → fewer < count → decides bound (take fewer edges) total query ≡ false

-- neither the edges nor any front of them decide the query, as far as the bound goes
abbrev pub IsLeftOpen : ℕ → List Edge → ℕ → Query → Type 0
IsLeftOpen bound edges total query = (count : ℕ) → count ≤ min (length edges) bound → decides bound (take count edges) total query ≡ false

-- the prefix of the same list with the fewest edges of this one that decide the query
pub record IsShortestFront (p : ListPrefix) (query : Query) (bound : ℕ) (front : ListPrefix) : Type 0 where
  pub count : ℕ
  pub is : front ≡ list_prefix (take count p.edges) p.total
  pub shortest : IsShortest bound p.edges p.total query count

-- the shortest front that decides the query, where there is one
abbrev pub IsFrontFor : ListPrefix → Query → ℕ → Option ListPrefix → Type 0
IsFrontFor p query bound (Some front) = IsShortestFront p query bound front
IsFrontFor p query bound None = IsLeftOpen bound p.edges p.total query
