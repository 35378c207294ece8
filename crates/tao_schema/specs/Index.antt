-- A map from names to places.
use Rattle.std.specs.Prelude.{◌≡◌, ℕ, List, String, Some, None, bytes_eq, if◌then◌else◌}
use Rattle.std.specs.Option.{option_or}
use Rattle.std.specs.HashMap.{HashMap, get_by_text}
use Rattle.tao_schema.specs.Names.{place_of}

-- each name stands at its first place, and no other name at all
abbrev pub IsIndex : {Y S : Type 0} → List (List ℕ) → HashMap (String Y) ℕ S → Type 0
IsIndex names index = (name : List ℕ) → get_by_text index name ≡ place_of names name

-- a new name stands at this place, and every other name where it did
abbrev pub AddsName : {Y S : Type 0} → HashMap (String Y) ℕ S → HashMap (String Y) ℕ S → List ℕ → ℕ → Type 0
AddsName old new name place = (other : List ℕ) → get_by_text new other ≡ option_or (get_by_text old other) (if bytes_eq other name then Some place else None)
