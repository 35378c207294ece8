-- The data that a request gives.
use Rattle.std.specs.Prelude.{◌&&◌, List, [], ◌∷◌, length, nat_le, Option, Some, if◌then◌else◌, Result, Ok, Err}
use Rattle.serde_json.specs.Data.{Members, no_members, member}
use Rattle.serde_json.specs.Find.{as_str}
use Rattle.outcomes.specs.Options.{◌>>=◌}
use Rattle.tao_base.specs.declared.data.Pair.{Pair}
use Rattle.tao_base.specs.Data.{data_bytes}
use Rattle.request_json.specs.declared.refusal.LineRefusal.{LineRefusal}
use Rattle.request_json.specs.declared.refusal.LineRefusal.TheVariants.{TooLarge}

-- the members with their keys, where each is a text
abbrev pub pairs_of : Members → Option (List Pair)
pairs_of no_members = Some []
pairs_of (member key d ms) = do
  value ← as_str d
  others ← pairs_of ms
  Some (record { key = key; value = value } ∷ others)

-- pairs that are in order are data, unless they are more than 32 or are spelled in more than 4,096 bytes
abbrev pub fitting : List Pair → Result (List Pair) LineRefusal
fitting pairs = if nat_le (length pairs) 32 && nat_le (length (data_bytes pairs)) 4096 then Ok pairs
    else Err (TooLarge (length (data_bytes pairs)) (length pairs))
