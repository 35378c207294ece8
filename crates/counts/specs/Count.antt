-- What it means that a count of calls or of faults rose.
use Rattle.std.specs.Prelude.{◌≡◌, ℕ, ◌+◌, ◌-◌, ◌^◌, ◌≤◌, max, min, Result, MatchResult, OnErr}

-- a count with one more; from its type's last value on it stands still
abbrev pub after_one : ℕ → ℕ
after_one count = max count (min (count + 1) (2 ^ 64 - 1))

-- one more was counted, and nothing else
abbrev pub Counted : ℕ → ℕ → Type 0
Counted before now = now ≡ after_one before

-- a count rose, by one or by more
abbrev pub Rose : ℕ → ℕ → Type 0
Rose before now = after_one before ≤ now

-- why a call may fail: its object's count of faults doesn't fall, and an error comes only where it rose
pub record HasCause {T E : Type 0} (before now : ℕ) (result : Result T E) : Type 0 where
  pub later : before ≤ now
  pub failed : OnErr result (Rose before now)

-- a count of faults says exactly how a call ended: one more after an error, the same otherwise
abbrev pub CountsError : {T E : Type 0} → ℕ → ℕ → Result T E → Type 0
CountsError before now result = MatchResult result (λ _. now ≡ before) (λ _. Counted before now)
