-- The members of an object, in order of their names.
use Rattle.std.specs.Prelude.{ℕ, suc, List, [], ◌∷◌, take, drop, Result, Ok, Err}
use Rattle.std.specs.Borrow.{Bor}
use Rattle.serde_json.specs.Data.{Data, Members, member}
use Rattle.json_fields.specs.View.{members_view, view}
use Rattle.json_fields.specs.declared.value.Json.{Json}

-- the members, and then those that follow
abbrev pub members_before : List (Bor (List ℕ) × Json) → Members → Members
members_before [] rest = rest
members_before (m ∷ ms) rest = member m.0.now (view m.1) (members_before ms rest)

-- the data under the name in place of the member at the place, or before it
abbrev pub put_found : Result ℕ ℕ → List ℕ → Data → List (Bor (List ℕ) × Json) → Members
put_found (Ok place) name d ms = members_before (take place ms) (member name d (members_view (drop (suc place) ms)))
put_found (Err place) name d ms = members_before (take place ms) (member name d (members_view (drop place ms)))
