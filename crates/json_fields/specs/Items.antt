-- The items of an array, each read in the same way.
use Rattle.std.specs.Prelude.{ℕ, List, [], ◌∷◌, Option, Some, option_and_then}
use Rattle.serde_json.specs.Data.{Data, Items, no_items, item}
use Rattle.outcomes.specs.Options.{◌>>=◌}
use Rattle.json_fields.specs.Fields.{items_at}

-- what the items say, where each says something
abbrev pub each : {A : Type 0} → (Data → Option A) → Items → Option (List A)
each said no_items = Some []
each said (item d ds) = do
  one ← said d
  others ← each said ds
  Some (one ∷ others)

-- what the items of an array say, which is the member of that name
abbrev pub each_at : {A : Type 0} → (Data → Option A) → List ℕ → Data → Option (List A)
each_at said name d = option_and_then (each said) (items_at name d)
