-- Calls that are counted from 1 on, of which those with listed numbers fail.
use Rattle.std.specs.Prelude.{ℕ, ◌≤◌, All, List, Contains}
use Rattle.counts.specs.Count.{after_one}

-- the numbers of the calls that fail, and how many calls there were
pub record Planned : Type 0 where
  pub fails : List ℕ
  pub count : ℕ

-- a plan by which the calls of the listed numbers fail, before the first call
abbrev pub from_one : List ℕ → Planned
from_one fails = record { fails = fails; count = 0 }

-- the next call is one of those that fail
abbrev pub FailsNext : Planned → Type 0
FailsNext calls = Contains calls.fails (after_one calls.count)

-- the plan after one more call, whether that failed or not
abbrev pub after_next : Planned → Planned
after_next calls = record calls { count = after_one calls.count }

-- none of the numbers lies from low on and below high
abbrev pub NoneBetween : ℕ → ℕ → List ℕ → Type 0
NoneBetween low high numbers = All (λ n. low ≤ n → high ≤ n) numbers
