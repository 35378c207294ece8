-- Rows of a log that are read ahead.
use Rattle.std.specs.Prelude.{◌≡◌, ℕ}
use Rattle.std.specs.Int.{cast_signed, w64}
use Rattle.sqlite_value.specs.Order.{Row, column}
use Rattle.sqlite_value.specs.declared.value.Value.TheVariants.{Int}

-- the row is that of the entry at the position, which its second column holds
abbrev pub IsRowAt : ℕ → Row → Type 0
IsRowAt position row = column row 1 ≡ Int (cast_signed w64 position)
