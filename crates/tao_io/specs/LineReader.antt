-- What a reader of lines has in hand.
use Rattle.std.specs.Prelude.{◌≡◌, ℕ, ◌+◌, ◌-◌, ◌^◌, ◌≤◌, List, length, Option}
use Rattle.std.specs.Io.KnownBytes.{prepend_known}

-- the most bytes that are taken of an input
abbrev pub input_limit : ℕ
input_limit = 2 ^ 40

-- the most bytes that are taken at a time, and so the most that are ahead
abbrev pub most_ahead : ℕ
most_ahead = 65536

-- the bytes that it took and hasn't given yet, and how many it took in all
pub record LineReading : Type 0 where
  pub ahead : List ℕ
  pub taken : ℕ

-- the known bytes that are to come through it, from a source that has these left
abbrev pub to_come : LineReading → Option (List ℕ) → Option (List ℕ)
to_come reader left = prepend_known reader.ahead left

-- how many bytes it may still give: those ahead, and those that it may still take
abbrev pub may_give : LineReading → ℕ
may_give reader = length reader.ahead + (input_limit - reader.taken)

-- the bytes ahead stand within the chunk, and no more was taken than may be
abbrev pub IsWithin : List ℕ → ℕ → ℕ → ℕ → Type 0
IsWithin chunk at end taken = (length chunk ≡ most_ahead) × (at ≤ end) × (end ≤ most_ahead) × (taken ≤ input_limit)
