-- The ring of bits behind the marks: the bit of position q stands at q modulo 1,024.
use Rattle.std.specs.Prelude.{◌≡◌, ◌≢◌, ℕ, zero, suc, ◌+◌, ◌%◌, ◌<◌, ◌≤◌, Bool, true, false, List, [], ◌∷◌, filter, slice_index_or}

-- whether the bit of position q is set in the ring
abbrev pub bit : List Bool → ℕ → Bool
bit ring q = slice_index_or ring (q % 1024) false

-- no bit is set
abbrev pub IsClear : List Bool → Type 0
IsClear ring = (q : ℕ) → bit ring q ≡ false

-- of a window above low, no bit above top is set
abbrev pub IsClearAbove : List Bool → ℕ → ℕ → Type 0
IsClearAbove ring low top = (q : ℕ) → top < q → q ≤ low + 1024 → bit ring q ≡ false

-- the bit of position p becomes b, and the bits at all other places of the ring stay
pub record PutsBit (old new : List Bool) (p : ℕ) (b : Bool) : Type 0 where
  pub put : bit new p ≡ b
  pub others : (q : ℕ) → p % 1024 ≢ q % 1024 → bit new q ≡ bit old q

-- the bits after low that were set without a gap, up to at, are cleared, and the others stay
pub record Absorbs (old new : List Bool) (low top at : ℕ) : Type 0 where
  pub from : low ≤ at
  pub to : at ≤ top
  pub gone : (q : ℕ) → low < q → q ≤ at → bit old q ≡ true
  pub rest : (q : ℕ) → at < q → q ≤ low + 1024 → bit new q ≡ bit old q
  pub fresh : (q : ℕ) → low + 1024 < q → q ≤ at + 1024 → bit new q ≡ false
  pub next : bit new (at + 1) ≡ false

-- n positions from this one on
unfoldable pub positions : ℕ → ℕ → List ℕ
positions from zero = []
positions from (suc n) = from ∷ positions (from + 1) n

-- the positions of the window above low whose bits are set
unfoldable pub ahead_of : List Bool → ℕ → List ℕ
ahead_of ring low = filter (bit ring) (positions (low + 1) 1024)
