-- Connections and starts that are in memory.
use Rattle.std.specs.Prelude.{ℕ, ◌≡◌, List, [], ◌∷◌, Option, None, Some, Result, Ok, Err}
use Rattle.counts.specs.Planned.{Planned, from_one}

-- the connections that are left, the calls with those of them that fail, and what was counted
pub record ListedConnections (C : Type 0) : Type 0 where
  pub left : List C
  pub calls : Planned
  pub given : ℕ
  pub ends : ℕ
  pub faults : ℕ

-- these connections, before the first call
abbrev pub listed_connections : {C : Type 0} → List C → List ℕ → ListedConnections C
listed_connections connections fails = record { left = connections; calls = from_one fails; given = 0; ends = 0; faults = 0 }

-- the first of the connections that are left is given, if there is one; a fault leaves them
abbrev pub GivesConnection : {C E : Type 0} → List C → List C → Result (Option C) E → Type 0
GivesConnection old new (Ok (Some connection)) = old ≡ connection ∷ new
GivesConnection old new (Ok None) = (old ≡ []) × (new ≡ [])
GivesConnection old new (Err e) = new ≡ old

-- the starts with those of them that fail, and what was counted
pub record Starts : Type 0 where
  pub calls : Planned
  pub started : ℕ
  pub faults : ℕ

-- the starts of the listed numbers fail, before the first one
abbrev pub new_starts : List ℕ → Starts
new_starts fails = record { calls = from_one fails; started = 0; faults = 0 }
