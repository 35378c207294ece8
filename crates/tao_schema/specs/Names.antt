-- The places of names in a list.
use Rattle.std.specs.Prelude.{◌≡◌, ℕ, List, Option, Some, position, bytes_eq, slice_get}

-- the first place of a name, from 0
abbrev pub place_of : List (List ℕ) → List ℕ → Option ℕ
place_of names name = position (bytes_eq name) names

-- each name is found where it stands
abbrev pub AreFound : List (List ℕ) → Type 0
AreFound names = (place : ℕ) (name : List ℕ) → slice_get names place ≡ Some name → place_of names name ≡ Some place
