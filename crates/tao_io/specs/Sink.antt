-- What a sink does with a piece.
use Rattle.std.specs.Prelude.{ℕ, ◌<◌, ◌⊎◌, List, length, take, Option, Result, IfOk}
use Rattle.std.specs.Io.KnownBytes.{Appends}
use Rattle.counts.specs.Count.{Rose}

-- a sink takes some of a piece that isn't empty, or has a fault
abbrev pub TakesSome : {E : Type 0} → ℕ → ℕ → Result ℕ E → List ℕ → Type 0
TakesSome before now result piece = IfOk result (λ n. 0 < length piece → (0 < n) ⊎ Rose before now)

-- known bytes grow by a front of the given ones, and not by all
abbrev pub AppendsFront : Option (List ℕ) → Option (List ℕ) → List ℕ → Type 0
AppendsFront old new bytes = (n : ℕ) × (n < length bytes) × Appends old new (take n bytes)
