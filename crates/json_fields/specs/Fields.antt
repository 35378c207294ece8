-- The members of an object, each by its name and its kind: nothing where one is missing or of another kind.
use Rattle.std.specs.Prelude.{ℕ, ◌&&◌, ◌==◌, not, Bool, true, false, nat_le, List, Option, Some, None, option_map, option_and_then, bytes_eq}
use Rattle.std.specs.Prelude.{is_some, if◌then◌else◌}
use Rattle.std.specs.Bool.{then_some}
use Rattle.std.specs.List.{list_any}
use Rattle.serde_json.specs.Data.{Data, object, Items, Members, no_members, member}
use Rattle.serde_json.specs.Find.{get, as_number, as_u64, as_str, as_bool, as_object, as_array}
use Rattle.outcomes.specs.Options.{◌>>=◌}
use Rattle.tao_base.specs.Ids.{serial_of}
use Rattle.tao_base.specs.Names.{is_name}

-- a whole number of 64 bits
abbrev pub whole_at : List ℕ → Data → Option ℕ
whole_at name d = option_and_then as_u64 (option_and_then as_number (get name d))

-- a whole number from the least to the most
abbrev pub number_at : List ℕ → ℕ → ℕ → Data → Option ℕ
number_at name least most d = do
  n ← whole_at name d
  then_some (nat_le least n && nat_le n most) n

-- a whole number from the least to the most; the default where it is missing
abbrev pub number_or : List ℕ → ℕ → ℕ → ℕ → Data → Option ℕ
number_or name default least most d = if is_some (get name d) then number_at name least most d else Some default

-- a whole number from the least to the most that may be missing
abbrev pub maybe_number_at : List ℕ → ℕ → ℕ → Data → Option (Option ℕ)
maybe_number_at name least most d = if is_some (get name d) then option_map Some (number_at name least most d) else Some None

-- the id that a value is: a whole number whose serial isn't 0
abbrev pub id_of : Data → Option ℕ
id_of d = do
  n ← option_and_then as_u64 (as_number d)
  then_some (not (serial_of n == 0)) n

-- an id: a number whose serial isn't 0
abbrev pub id_at : List ℕ → Data → Option ℕ
id_at name d = do
  n ← whole_at name d
  then_some (not (serial_of n == 0)) n

-- an id that may be missing
abbrev pub maybe_id_at : List ℕ → Data → Option (Option ℕ)
maybe_id_at name d = if is_some (get name d) then option_map Some (id_at name d) else Some None

-- a text
abbrev pub text_at : List ℕ → Data → Option (List ℕ)
text_at name d = option_and_then as_str (get name d)

-- a text, where it is given
abbrev pub text_of : Option Data → Option (Option (List ℕ))
text_of None = Some None
text_of (Some d) = option_map Some (as_str d)

-- a text that may be missing
abbrev pub maybe_text_at : List ℕ → Data → Option (Option (List ℕ))
maybe_text_at name d = text_of (get name d)

-- a flag that may be left out: true or false where it is given
abbrev pub flag_of : Option Data → Option (Option Bool)
flag_of None = Some None
flag_of (Some d) = option_map Some (as_bool d)

-- the flag of that name
abbrev pub flag_at : List ℕ → Data → Option (Option Bool)
flag_at name d = flag_of (get name d)

-- each member has one of these names
abbrev pub are_named : List (List ℕ) → Members → Bool
are_named names no_members = true
are_named names (member key d ms) = list_any (λ name. bytes_eq name key) names && are_named names ms

-- an object whose members have these names alone
abbrev pub has_only : List (List ℕ) → Data → Bool
has_only names (object ms) = are_named names ms
has_only names d = false

-- the first member, in order of bytes as an object has them, that has another name than these
abbrev pub first_strange : List (List ℕ) → Members → Option (List ℕ)
first_strange names no_members = None
first_strange names (member key d ms) = if list_any (λ name. bytes_eq name key) names then first_strange names ms else Some key

-- the first member of an object, in order of bytes, that has another name than these; None where each has one, or the value is no object
abbrev pub strange_at : List (List ℕ) → Data → Option (List ℕ)
strange_at names d = option_and_then (first_strange names) (as_object d)

-- an object
abbrev pub object_at : List ℕ → Data → Option Data
object_at name d = do
  inner ← get name d
  then_some (is_some (as_object inner)) inner

-- the items of an array
abbrev pub items_at : List ℕ → Data → Option Items
items_at name d = option_and_then as_array (get name d)

-- a text that is a name
abbrev pub name_of : Data → Option (List ℕ)
name_of d = do
  text ← as_str d
  then_some (is_name text) text

-- the name in the member of that name
abbrev pub name_at : List ℕ → Data → Option (List ℕ)
name_at name d = option_and_then name_of (get name d)
