-- What acceptors and spawners count.
use Rattle.std.specs.Prelude.{ℕ, ◌≡◌, Option, None, Some, Result, MatchResult, Ok, Err}
use Rattle.counts.specs.Count.{Counted}

-- a count of connections: one more where one was given, and the same otherwise
abbrev pub CountsGiven : {C E : Type 0} → ℕ → ℕ → Result (Option C) E → Type 0
CountsGiven before now (Ok (Some connection)) = Counted before now
CountsGiven before now (Ok None) = now ≡ before
CountsGiven before now (Err e) = now ≡ before

-- a count of ends: one more where none was given without a fault, and the same otherwise
abbrev pub CountsEnd : {C E : Type 0} → ℕ → ℕ → Result (Option C) E → Type 0
CountsEnd before now (Ok (Some connection)) = now ≡ before
CountsEnd before now (Ok None) = Counted before now
CountsEnd before now (Err e) = now ≡ before

-- a count of what was started: one more where it was, and the same where it was handed back
abbrev pub CountsStart : {T E : Type 0} → ℕ → ℕ → Result T E → Type 0
CountsStart before now result = MatchResult result (λ _. Counted before now) (λ _. now ≡ before)
