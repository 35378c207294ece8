-- How many hops the stages of a call took.
use Rattle.std.specs.Prelude.{ℕ, ◌+◌, ◌-◌, ◌^◌, min}

-- the last value of a count of hops
abbrev pub most_hops : ℕ
most_hops = 2 ^ 64 - 1

-- the count after some more hops. At its last value it stands still
abbrev pub hops_after : ℕ → ℕ → ℕ
hops_after hops more = min (hops + more) most_hops
