-- The streams of what begins with a first line.
use Rattle.std.specs.Prelude.{ℕ, List, Option}

-- what a source has left, and what a sink has taken, where they are known
pub record Streams : Type 0 where
  pub left : Option (List ℕ)
  pub written : Option (List ℕ)

-- a source that has this left, and a sink that took this
abbrev pub streams : Option (List ℕ) → Option (List ℕ) → Streams
streams left written = record { left = left; written = written }
