-- A stage at the node of a name.
use Rattle.std.specs.Prelude.{ℕ, ◌≡◌, Bool, List, Option, None, Some, if◌then◌else◌, slice_get}
use Rattle.node_name.specs.declared.NodeName.{NodeName}
use Rattle.tao_base.specs.declared.entry.Entry.{Entry}
use Rattle.core_model.specs.Fleet.{IsFirstAt, named}
use Rattle.core_model.specs.declared.named.Named.{Named}

-- the node of that name is such
abbrev pub NodeIs : {N : Type 0} → NodeName → (N → Type 0) → List (Named N) → Type 0
NodeIs name Such nodes = (place : ℕ) (node : _) → IsFirstAt name nodes place → slice_get nodes place ≡ Some (named name node) → Such node

-- what a leader takes of an entry: it, where it serves the entry's shard
abbrev pub taken_by : Bool → Option Entry → Option Entry
taken_by serves entry = if serves then entry else None
