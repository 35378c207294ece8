-- A line as JSON.
use Rattle.std.specs.Prelude.{ℕ, List, length, Option, None, nat_le, ◌&&◌, if◌then◌else◌}
use Rattle.std.specs.Str.{is_utf8}
use Rattle.serde_json.specs.Data.{Data}
use Rattle.serde_json.specs.Read.{read}

-- what a line says: nothing where it is longer than 1,048,576 bytes, isn't UTF-8 or is no JSON
abbrev pub json_of : List ℕ → Option Data
json_of line = if nat_le (length line) 1048576 && is_utf8 line then read line else None
