-- Laws for callers that read line after line.
use Rattle.std.proofs.Common.{◌≡◌, ℕ, ◌+◌, ◌≤◌, List, [], ◌++◌, Option, Some, None, length, refl, ap, ◌∙◌, sym, arith, append_assoc, append-nil, length-append}
use Rattle.std.specs.Io.KnownBytes.{Keeps, IsAtEnd}
use Rattle.std.proofs.KnownBytes.{Consumes-nil, Consumes-trans}
use Rattle.tao_io.specs.Lines.{lines_of, GivesLines, CountsTaken}
use Rattle.tao_io.proofs.LineLaws.{lines_of-nil}

-- no line was read yet
pub GivesLines-nil : (a : Option (List ℕ)) → GivesLines a a []
GivesLines-nil None = tt
GivesLines-nil (Some bytes) = refl

-- lines were read, and then others
pub GivesLines-trans : (a b c : Option (List ℕ)) (lines more : List (List ℕ)) → GivesLines a b lines → GivesLines b c more → GivesLines a c (lines ++ more)
GivesLines-trans None b c lines more first second = tt
GivesLines-trans (Some x) None c lines more first second = absurd first
GivesLines-trans (Some x) (Some y) None lines more first second = absurd second
GivesLines-trans (Some x) (Some y) (Some z) lines more first second = first ∙ ap (λ l. lines ++ l) second ∙ sym (append_assoc lines more (lines_of z))

-- bytes that stay keep their lines
pub GivesLines-kept : (a b c : Option (List ℕ)) (lines : List (List ℕ)) → GivesLines a b lines → Keeps b c → GivesLines a c lines
GivesLines-kept None b c lines gives kept = tt
GivesLines-kept (Some x) None c lines gives kept = absurd gives
GivesLines-kept (Some x) (Some y) None lines gives kept = absurd kept
GivesLines-kept (Some x) (Some y) (Some z) lines gives kept = gives ∙ ap (λ l. lines ++ lines_of l) (sym kept)

-- at the end all the lines were read
pub GivesLines-all : (bytes : List ℕ) (b : Option (List ℕ)) (lines : List (List ℕ)) → GivesLines (Some bytes) b lines → IsAtEnd b → lines_of bytes ≡ lines
GivesLines-all bytes None lines gives end = absurd gives
GivesLines-all bytes (Some left) lines gives end = gives ∙ ap (λ l. lines ++ l) (ap lines_of end ∙ lines_of-nil) ∙ append-nil lines

-- nothing was taken yet
pub CountsTaken-nil : (a : Option (List ℕ)) (k : ℕ) → CountsTaken a a k k
CountsTaken-nil a k = record { bytes = []; consumed = Consumes-nil a; count = omega arith }

-- what was taken in two steps
pub CountsTaken-trans : (a b c : Option (List ℕ)) (k m n : ℕ) → CountsTaken a b k m → CountsTaken b c m n → CountsTaken a c k n
CountsTaken-trans a b c k m n first second = record {
  bytes = first.bytes ++ second.bytes;
  consumed = Consumes-trans a b c first.bytes second.bytes first.consumed second.consumed;
  count = omega (arith, first.count, second.count, length-append first.bytes second.bytes);
}

-- the known bytes are those that were taken and those that are left
pub CountsTaken-length : (bytes left : List ℕ) (k n : ℕ) → CountsTaken (Some bytes) (Some left) k n → n + length left ≡ k + length bytes
CountsTaken-length bytes left k n taken = omega (arith, taken.count, ap length taken.consumed, length-append taken.bytes left)

-- no more were taken than were known
pub CountsTaken-le : (bytes : List ℕ) (b : Option (List ℕ)) (k n : ℕ) → CountsTaken (Some bytes) b k n → n ≤ k + length bytes
CountsTaken-le bytes None k n taken = absurd taken.consumed
CountsTaken-le bytes (Some left) k n taken = omega (arith, CountsTaken-length bytes left k n taken)
