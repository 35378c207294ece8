-- Names of their own.
use Rattle.std.specs.Prelude.{ℕ, Bool, true, not, ◌&&◌, List, [], ◌∷◌, bytes_eq, nat_le}
use Rattle.std.specs.List.{list_any}

-- no name comes twice
abbrev pub are_different : List (List ℕ) → Bool
are_different [] = true
are_different (name ∷ names) = not (list_any (bytes_eq name) names) && are_different names

-- whether n is from the least to the most, both included
abbrev pub in_range : ℕ → ℕ → ℕ → Bool
in_range least most n = nat_le least n && nat_le n most
