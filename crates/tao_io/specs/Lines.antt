-- The lines of an input, and what is told of them while they are read.
use Rattle.std.specs.Prelude.{◌≡◌, ℕ, ◌+◌, ◌<◌, ◌≤◌, nat_lt, ◌==◌, Bool, List, [], ◌∷◌, ◌++◌, length, filter, Option, Some, None, ⊤}
use Rattle.std.specs.List.{slice_split}
use Rattle.std.specs.Io.KnownBytes.{Consumes, IsAtEnd}
use Rattle.tao_io.specs.declared.lines.NextLine.{NextLine}
use Rattle.tao_io.specs.declared.lines.NextLine.TheVariants.{Line, TooLong, End}

-- byte 10 ends a line
abbrev pub is_line_end : ℕ → Bool
is_line_end byte = byte == 10

-- the lines of the bytes: the parts that byte 10 or their own end ends, without the empty ones
unfoldable pub lines_of : List ℕ → List (List ℕ)
lines_of bytes = filter (λ line. nat_lt 0 (length line)) (slice_split is_line_end bytes)

-- the most bytes of a line that is taken
abbrev pub line_limit : ℕ
line_limit = 1048576

-- a line that is longer than is taken
abbrev pub IsTooLong : List ℕ → Type 0
IsTooLong line = line_limit < length line

-- the lines came out of the known bytes, and the lines of those left are the rest; of unknown bytes nothing is said
abbrev pub GivesLines : Option (List ℕ) → Option (List ℕ) → List (List ℕ) → Type 0
GivesLines None left lines = ⊤
GivesLines (Some bytes) None lines = ⊥
GivesLines (Some bytes) (Some left) lines = lines_of bytes ≡ lines ++ lines_of left

-- the next line came out of the known bytes; at the end none came, and no byte is left
abbrev pub NextLineIs : NextLine → Option (List ℕ) → Option (List ℕ) → List ℕ → Type 0
NextLineIs Line before after line = (length line ≤ line_limit) × GivesLines before after (line ∷ [])
NextLineIs TooLong before after line = (whole : List ℕ) × IsTooLong whole × GivesLines before after (whole ∷ [])
NextLineIs End before after line = IsAtEnd after × GivesLines before after []

-- a line used up some of what could be given
abbrev pub UsesSome : NextLine → ℕ → ℕ → Type 0
UsesSome Line before after = after < before
UsesSome TooLong before after = after < before
UsesSome End before after = ⊤

-- the bytes that were taken of the known ones were counted
pub record CountsTaken (left left' : Option (List ℕ)) (taken taken' : ℕ) : Type 0 where
  pub bytes : List ℕ
  pub consumed : Consumes left left' bytes
  pub count : taken' ≡ taken + length bytes
