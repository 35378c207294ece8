-- Reading bytes field by field, from left to right.
use Rattle.std.specs.Prelude.{ℕ, ◌+◌, ◌<◌, Bool, List, [], ◌∷◌, length, take, drop, Result, Ok, Err, nat_le, slice_index, if◌then◌else◌}
use Rattle.std.specs.Int.{Width, byte_len, from_be_bytes}

-- the bytes that are left, and the place of the first of them
pub record Rest : Type 0 where
  pub at : ℕ
  pub bytes : List ℕ

-- each number of the list is a byte, below 256
abbrev pub AreBytes : List ℕ → Type 0
AreBytes bytes = (i : ℕ) → slice_index bytes i < 256

-- a field gives its value and what is left after it, or it is refused at a place
abbrev pub Field : Type 0 → Type 0
Field X = Rest → Result (X × Rest) ℕ

-- the next field, read from the bytes that the first one left and knowing its value; where the first one was refused, all is
abbrev pub and_then : {X Y : Type 0} → Result (X × Rest) ℕ → (X → Field Y) → Result (Y × Rest) ℕ
and_then (Ok read) next = next read.0 read.1
and_then (Err at) next = Err at

-- one field after the other
infixl 10 ◌>>=◌
abbrev pub ◌>>=◌ : {X Y : Type 0} → Field X → (X → Field Y) → Field Y
(field >>= next) rest = and_then (field rest) next

-- no bytes, for a value that is known
abbrev pub give : {X : Type 0} → X → Field X
give x rest = Ok (x, rest)

-- the place of the next field
abbrev pub place_here : Field ℕ
place_here rest = Ok (rest.at, rest)

-- n bytes, where so many are left
abbrev pub spelled_bytes : ℕ → Field (List ℕ)
spelled_bytes n rest = if nat_le n (length rest.bytes) then Ok (take n rest.bytes, record { at = rest.at + n; bytes = drop n rest.bytes }) else Err rest.at

-- what was read, where it passes the test; else it is refused at the place
abbrev pub kept_if : {X : Type 0} → (X × Rest → Bool) → ℕ → Result (X × Rest) ℕ → Result (X × Rest) ℕ
kept_if test place (Ok read) = if test read then Ok read else Err place
kept_if test place (Err at) = Err at

-- a field of which some values are allowed
abbrev pub only : {X : Type 0} → (X → Bool) → Field X → Field X
only allowed field rest = kept_if (λ read. allowed read.0) rest.at (field rest)

-- a field that ends at the place or before
abbrev pub up_to : {X : Type 0} → ℕ → Field X → Field X
up_to end field rest = kept_if (λ read. nat_le read.1.at end) rest.at (field rest)

-- an unsigned number of the width, big endian
abbrev pub spelled_number : Width → Field ℕ
spelled_number w = do
  bytes ← spelled_bytes (byte_len w)
  give (from_be_bytes w bytes)

-- the value, where no bytes are left; else they are refused
abbrev pub if_ended : {X : Type 0} → X → ℕ → List ℕ → Result X ℕ
if_ended x place [] = Ok x
if_ended x place (b ∷ bytes) = Err place

-- what a last field gives
abbrev pub ended : {X : Type 0} → Result (X × Rest) ℕ → Result X ℕ
ended (Ok read) = if_ended read.0 read.1.at read.1.bytes
ended (Err at) = Err at
