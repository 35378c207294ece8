-- A line that is put together from the chunks in which it comes.
use Rattle.std.specs.Prelude.{◌≡◌, ℕ, ◌+◌, ◌<◌, nat_lt, true, false, if◌then◌else◌, List, [], ◌∷◌, ◌++◌, length, take, drop, slice_index, All, Option, Some, None}
use Rattle.tao_io.specs.declared.lines.NextLine.{NextLine}
use Rattle.tao_io.specs.declared.lines.NextLine.TheVariants.{Line, TooLong, End}
use Rattle.tao_io.specs.Lines.{is_line_end, line_limit}

-- no line ends in these bytes
abbrev pub NoLineEnd : List ℕ → Type 0
NoLineEnd bytes = All (λ byte. is_line_end byte ≡ false) bytes

-- the place of the first end of a line, or none
abbrev pub EndsLineAt : List ℕ → Option ℕ → Type 0
EndsLineAt bytes None = NoLineEnd bytes
EndsLineAt bytes (Some at) =
    (at < length bytes) × NoLineEnd (take at bytes) × (bytes ≡ take at bytes ++ 10 ∷ drop (at + 1) bytes)

-- these bytes end lines, each of them
abbrev pub EndsAlone : List ℕ → Type 0
EndsAlone bytes = All (λ byte. is_line_end byte ≡ true) bytes

-- the place of the first byte that ends no line, or none
abbrev pub StartsLineAt : List ℕ → Option ℕ → Type 0
StartsLineAt bytes None = EndsAlone bytes
StartsLineAt bytes (Some at) = (at < length bytes) × EndsAlone (take at bytes) × (is_line_end (slice_index bytes at) ≡ false)

-- the next line stands there whole, behind ends of lines, and its own end behind it
abbrev pub HoldsLine : List ℕ → Type 0
HoldsLine bytes = (ends line rest : List ℕ) × EndsAlone ends × NoLineEnd line × (0 < length line) × (bytes ≡ ends ++ line ++ 10 ∷ rest)

-- at most a line's beginning stands there, behind ends of lines
abbrev pub HoldsNoLine : List ℕ → Type 0
HoldsNoLine bytes = (ends part : List ℕ) × EndsAlone ends × NoLineEnd part × (bytes ≡ ends ++ part)

-- a line's first bytes, enough to see whether it is too long
unfoldable pub held : List ℕ → List ℕ
held line = take (line_limit + 1) line

-- a line went on by what was ahead, up to its end there
abbrev pub TakesToEnd : List ℕ → List ℕ → List ℕ → List ℕ → Type 0
TakesToEnd ahead ahead' line line' =
    (piece : List ℕ) × NoLineEnd piece × (ahead ≡ piece ++ 10 ∷ ahead') × (line' ≡ held (line ++ piece))

-- a line went on by all that was ahead, and has no end there
abbrev pub TakesAll : List ℕ → List ℕ → List ℕ → List ℕ → Type 0
TakesAll ahead ahead' line line' = NoLineEnd ahead × (ahead' ≡ []) × (line' ≡ held (line ++ ahead))

-- what was read, by what is held of it; nothing is the end
abbrev pub line_kind : List ℕ → NextLine
line_kind [] = End
line_kind (byte ∷ bytes) = if nat_lt line_limit (length (byte ∷ bytes)) then TooLong else Line
