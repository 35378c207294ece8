-- Laws of cached prefixes.
use Rattle.std.specs.Prelude.{Bool, false, Some, min, nat_lt, ◌==◌, ◌&&◌, ◌≢◌, ℕ, true, List, length, take, ◌≡◌, ◌↔◌}
use Rattle.std.specs.List.{list_any, AllByRecursion}
use Rattle.tao_base.specs.declared.edge.Edge.{Edge}
use Rattle.tao_base.specs.declared.entry.Change.{Change}
use Rattle.tao_base.specs.declared.query.Query.{Query}
use Rattle.tao_base.specs.declared.query.Query.TheVariants.{ObjGet, AssocGet, AssocCount, AssocRange, AssocTimeRange}
use Rattle.graph_model.specs.Answers.{at_least, at_most, list_answer}
use Rattle.graph_model.specs.Edges.{IsInListOrder, IsNewestFirst, Without, is_newer, list_after}
use Rattle.graph_model.specs.Prefixes.{IsDecided, IsPrefixOf, SaysWas, decides, edges_after, total_after}

-- the test `decides` is true exactly where the table `IsDecided` says that the query is decided
abbrev pub DecidesExactly : ℕ → List Edge → ℕ → Query → Type 0
DecidesExactly bound edges total query = (decides bound edges total query ≡ true) ↔ IsDecided bound edges total query

-- what first edges and a length decide of a query, each list in order that begins with the edges and has that length answers
abbrev pub DecidesRightly : ℕ → List Edge → ℕ → Query → Type 0
DecidesRightly bound edges total query = decides bound edges total query ≡ true → (whole : List Edge) → IsPrefixOf edges total whole
    → IsInListOrder whole → list_answer bound edges total query ≡ list_answer bound whole (length whole) query

-- an edge could stand behind the edges: each of them is newer, and none goes to its id
pub record CanStandBehind (edges : List Edge) (e : Edge) : Type 0 where
  pub older : AllByRecursion (λ x. is_newer x e ≡ true) edges
  pub new_id : Without e.id2 edges

-- whether the query asks for the edge, as far as its time and its id say
abbrev pub asks_for : ℕ → Query → Edge → Bool
asks_for bound (ObjGet id) e = false
asks_for bound (AssocCount id1 atype) e = false
asks_for bound (AssocRange id1 atype pos limit) e = nat_lt 0 (min limit bound)
asks_for bound (AssocTimeRange id1 atype high low limit) e = at_least (Some low) e.time && at_most (Some high) e.time
asks_for bound (AssocGet id1 atype ids high low) e = list_any (λ id. id == e.id2) ids && (at_least low e.time && at_most high e.time)

-- two lists in order that begin with the edges and have that length answer the query differently
pub record IsOpen (bound : ℕ) (edges : List Edge) (total : ℕ) (query : Query) : Type 0 where
  pub one : List Edge
  pub other : List Edge
  pub one_begins : IsPrefixOf edges total one
  pub other_begins : IsPrefixOf edges total other
  pub one_in_order : IsInListOrder one
  pub other_in_order : IsInListOrder other
  pub differ : list_answer bound one total query ≢ list_answer bound other total query

-- the converse: a query that is not decided is open, where any list begins so and an edge that the query asks for could stand behind the first edges.
-- In two corners there is none such, and the test says undecided all the same: a range of no places, and where the last of the edges has the least
-- time that is asked for, and below its id stands none that is asked for and new
pub record UndecidedIsOpen (bound : ℕ) (edges : List Edge) (total : ℕ) (query : Query) : Type 0 where
  pub is_open : decides bound edges total query ≡ false → (whole : List Edge) → IsPrefixOf edges total whole → IsInListOrder whole
      → (e : Edge) → CanStandBehind edges e → asks_for bound query e ≡ true → IsOpen bound edges total query

-- the law of applying a change: an exact prefix becomes one of the list after the change
pub record PrefixFollows (bound : ℕ) (change : Change) (edges : List Edge) (total : ℕ) : Type 0 where
  pub follows : (whole : List Edge) → IsPrefixOf edges total whole → IsNewestFirst whole → SaysWas change whole
      → IsPrefixOf (take bound (edges_after change edges total)) (total_after change total) (list_after change whole)
