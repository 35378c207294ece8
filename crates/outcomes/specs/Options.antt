-- Looking for one thing after another.
use Rattle.std.specs.Prelude.{Option, option_and_then}

-- one step after another, where the first that finds nothing ends them
infixl 10 ◌>>=◌
abbrev pub ◌>>=◌ : {A B : Type 0} → Option A → (A → Option B) → Option B
found >>= next = option_and_then next found
