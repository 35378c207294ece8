-- The leads that are open, each with those who wait for it.
use Rattle.std.specs.Prelude.{◌≡◌, List, Option, if◌then◌else◌}
use Rattle.std.specs.Map.{lookup}
use Rattle.futures.specs.declared.task.waker.Waker.{Waker}
use Rattle.herd_state.specs.Names.{same_name}
use Rattle.herd_state.specs.declared.name.HerdName.{HerdName}

-- each under its name, with the wakers of those who wait, in the order in which they came
abbrev pub Leads : Type 0
Leads = List (HerdName × List Waker)

-- those who wait for the lead of a name; none where no lead of the name is open
abbrev pub wakers_of : Leads → HerdName → Option (List Waker)
wakers_of leads name = lookup (same_name name) leads

-- the lead of one name was opened, changed or closed, and each other lead stays
pub record Becomes (name : HerdName) (wakers : Option (List Waker)) (old new : Leads) : Type 0 where
  pub leads : (other : HerdName) → wakers_of new other ≡ (if same_name name other then wakers else wakers_of old other)

-- every lead stays
pub record StayOpen (old new : Leads) : Type 0 where
  pub leads : (name : HerdName) → wakers_of new name ≡ wakers_of old name
