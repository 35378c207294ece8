-- Carries between two nodes, and what it means to cut and to mend one.
use Rattle.std.specs.Prelude.{◌≡◌, ◌≢◌, ◌↔◌, Bool, List, Contains, Option, None, IsFalse, IsSomeAnd, MatchOption}
use Rattle.node_name.specs.declared.NodeName.{NodeName}
use Rattle.tao_link.specs.declared.link.Carry.{Carry}

-- the carry from one node to another
abbrev pub between : NodeName → NodeName → Carry
between from to = record { from = from; to = to }

-- one carry is now cut, unless it is to be whole, and each other is cut where it was
pub record Switches (at : Carry) (whole : Bool) (old new : List Carry) : Type 0 where
  pub here : Contains new at ↔ IsFalse whole
  pub others : (other : Carry) → other ≢ at → (Contains new other ↔ Contains old other)

-- where the cuts are told they still are, and one carry is switched and no other; where they aren't told, they still aren't
abbrev pub SwitchesWhereTold : Carry → Bool → Option (List Carry) → Option (List Carry) → Type 0
SwitchesWhereTold at whole old new = MatchOption old (new ≡ None) (λ cuts. IsSomeAnd new (Switches at whole cuts))
