-- What a list's table holds, and what it says.
use Rattle.std.specs.Prelude.{◌≡◌, ℕ, List, [], ◌∷◌, Option, Some, None}
use Rattle.std.specs.BTreeMap.{is_at}
use Rattle.std.specs.Map.{lookup}
use Rattle.std.specs.Ordering.{nat_cmp}
use Rattle.tao_base.specs.declared.edge.Edge.{Edge}
use Rattle.tao_base.specs.declared.edge.EdgeState.{EdgeState}
use Rattle.tao_base.specs.declared.edge.EdgeState.TheVariants.{Cut as CutState}
use Rattle.tao_base.specs.declared.entry.Change.{Change}
use Rattle.tao_base.specs.declared.id.Id.{Id}
use Rattle.graph_model.specs.Edges.{edges_to, list_after, record_after, state_of}
use Rattle.list_index.specs.AtKeys.{times_to}
use Rattle.list_index.specs.declared.table.Standing.{Standing}
use Rattle.list_index.specs.declared.table.Standing.TheVariants.{Live, Cut}

-- the edges of a list, and how the edge to each id stands
pub record ListState : Type 0 where
  pub edges : List Edge
  pub standings : List (Id × Standing)

-- a list that nothing was written to
abbrev pub no_list : ListState
no_list = record { edges = []; standings = [] }

-- how the edge to id2 stands, if it was ever set or cut
abbrev pub standing_of : Id → List (Id × Standing) → Option Standing
standing_of id2 standings = lookup (is_at (nat_cmp id2)) standings

-- the times of the live edges where one stands so
abbrev pub live_times : Option Standing → List ℕ
live_times None = []
live_times (Some (Cut stamp)) = []
live_times (Some (Live time)) = time ∷ []

-- one edge goes to each id that stands live, of that time, and none to any other
abbrev pub StandAsListed : List Edge → List (Id × Standing) → Type 0
StandAsListed edges standings = (id2 : Id) → times_to id2 edges ≡ live_times (standing_of id2 standings)

-- the record of an edge that stands so, where these are the edges to its id
abbrev pub record_from : Option Standing → List Edge → Option EdgeState
record_from None edges = None
record_from (Some (Cut stamp)) edges = Some (CutState stamp)
record_from (Some (Live time)) [] = None
record_from (Some (Live time)) (e ∷ edges) = Some (state_of e)

-- the record of the edge to id2
abbrev pub record_to : ListState → Id → Option EdgeState
record_to state id2 = record_from (standing_of id2 state.standings) (edges_to id2 state.edges)

-- the list after one more change
pub record ListIsAfter (change : Change) (old new : ListState) : Type 0 where
  pub edges_are : new.edges ≡ list_after change old.edges
  pub records_are : (id2 : Id) → record_to new id2 ≡ record_after id2 change (record_to old id2)
