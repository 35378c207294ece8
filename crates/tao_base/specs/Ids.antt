-- Ids: the shard in the upper 16 bits, the serial in the lower 48.
use Rattle.std.specs.Prelude.{ℕ, ◌/◌, ◌%◌, ◌^◌, ◌<◌, List, [], ◌∷◌}

-- the shard of an id: its upper 16 bits
abbrev pub shard_of : ℕ → ℕ
shard_of id = id / 2 ^ 48

-- the serial of an id on its shard: its lower 48 bits
abbrev pub serial_of : ℕ → ℕ
serial_of id = id % 2 ^ 48

-- each id is below the next
abbrev pub IsRising : List ℕ → Type 0
IsRising [] = Unit {0}
IsRising (id ∷ []) = Unit {0}
IsRising (id ∷ next ∷ ids) = (id < next) × IsRising (next ∷ ids)
