-- A line as an object.
use Rattle.std.specs.Prelude.{ℕ, List, Option, is_some}
use Rattle.std.specs.Bool.{then_some}
use Rattle.serde_json.specs.Data.{Data}
use Rattle.serde_json.specs.Find.{as_object}
use Rattle.outcomes.specs.Options.{◌>>=◌}
use Rattle.json_fields.specs.Json.{json_of}

-- what a line says: nothing where it is too long, isn't UTF-8, is no JSON or no object
abbrev pub line_object : List ℕ → Option Data
line_object line = do
  d ← json_of line
  then_some (is_some (as_object d)) d
