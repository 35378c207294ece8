-- What a log says of one key, whether of an object or of a list.
use Rattle.std.specs.Prelude.{◌≡◌, ◌+◌, ℕ, List, length, Option, None}
use Rattle.tao_base.specs.declared.edge.Object.{Object}
use Rattle.tao_base.specs.declared.entry.Change.{Change}
use Rattle.tao_base.specs.declared.id.Id.{Id}
use Rattle.graph_model.specs.Edges.{live_edges, newest_first, record_in}
use Rattle.graph_model.specs.Log.{object_after, object_in}
use Rattle.list_index.specs.ListState.{ListIsAfter, ListState, no_list, record_to}

-- the state of a key: its version, the object (None where there is none), and its list
pub record KeyState : Type 0 where
  pub version : ℕ
  pub object : Option Object
  pub list : ListState

-- the state of a key that nothing touches
abbrev pub no_state : KeyState
no_state = record { version = 0; object = None; list = no_list }

-- the state after one more change
pub record IsAfter (change : Change) (old new : KeyState) : Type 0 where
  pub version_is : new.version ≡ old.version + 1
  pub object_is : new.object ≡ object_after change old.object
  pub list_is : ListIsAfter change old.list new.list

-- the state is what the changes leave
pub record IsLeftBy (changes : List Change) (state : KeyState) : Type 0 where
  pub version_is : state.version ≡ length changes
  pub object_is : state.object ≡ object_in changes
  pub edges_are : state.list.edges ≡ newest_first (live_edges changes)
  pub records_are : (id2 : Id) → record_to state.list id2 ≡ record_in changes id2
