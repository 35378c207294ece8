-- JSON values.
use Rattle.std.specs.Prelude.{ℕ, List, [], ◌∷◌, Option, Some, None}
use Rattle.serde_json.specs.Data.{Data, number, unsigned, string, object, Members, no_members, member}

-- members, which are given in the order of their names
abbrev pub members : List (List ℕ × Data) → Members
members [] = no_members
members (m ∷ ms) = member m.0 m.1 (members ms)

-- an object of these members
abbrev pub fields : List (List ℕ × Data) → Data
fields ms = object (members ms)

-- a member before others, where it is there
abbrev pub given_before : List ℕ → Option Data → List (List ℕ × Data) → List (List ℕ × Data)
given_before name None ms = ms
given_before name (Some d) ms = (name, d) ∷ ms

-- the members whose value is there, in their order
abbrev pub given : List (List ℕ × Option Data) → List (List ℕ × Data)
given [] = []
given (m ∷ ms) = given_before m.0 m.1 (given ms)

-- a text
abbrev pub text : List ℕ → Data
text = string

-- a whole number
abbrev pub whole : ℕ → Data
whole n = number (unsigned n)
