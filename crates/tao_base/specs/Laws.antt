-- Laws of types, each the contract of a function.
use Rattle.std.specs.Prelude.{◌≡◌}

-- what counts as a copy of a value equals it
abbrev pub CopiesAreEqual : {X : Type 0} → (X → X → Type 0) → Type 0
CopiesAreEqual {X} is_copy = (source copy : X) → is_copy source copy → copy ≡ source
