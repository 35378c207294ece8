-- Which lines are those of the association types, and what they say.
use Rattle.std.specs.Prelude.{ℕ, Bool, true, List, map, Option, Some, None, Result, nat_eq, nat_le, slice_get, option_and_then, option_map, ◌&&◌}
use Rattle.std.specs.Option.{option_eq}
use Rattle.tao_base.specs.EdgeTypes.{EdgeTypes}
use Rattle.tao_base.specs.declared.id.AType.{AType}
use Rattle.tao_base.specs.Names.{is_name}
use Rattle.tao_schema.specs.Names.{place_of}
use Rattle.tao_schema.specs.Rules.{broken, unless_broken}
use Rattle.tao_schema.specs.declared.lines.AssocLine.{AssocLine}
use Rattle.tao_schema.specs.declared.refusal.SchemaField.TheVariants.{Assocs}
use Rattle.tao_schema.specs.declared.refusal.SchemaRefusal.{SchemaRefusal}

-- the names of the association types, in the order of their lines
abbrev pub names_of : List AssocLine → List (List ℕ)
names_of lines = map (λ line. line.name) lines

-- an inverse means the first type of its name
abbrev pub inverse_of : List AssocLine → AssocLine → Option ℕ
inverse_of lines line = option_and_then (place_of (names_of lines)) line.inverse

-- the place of the inverse of the type at a place
abbrev pub inverse_at : List AssocLine → ℕ → Option ℕ
inverse_at lines place = option_and_then (inverse_of lines) (slice_get lines place)

-- the type at a place
abbrev pub atype_at : ℕ → AType
atype_at place = record { 0 = place }

-- the inverse of each type
abbrev pub inverses_of : List AssocLine → List (Option AType)
inverses_of lines = map (λ line. option_map atype_at (inverse_of lines line)) lines

-- the bound of the type at a place
abbrev pub bound_in : Option AssocLine → ℕ
bound_in (Some line) = line.bound
bound_in None = 6000

-- the bound of the type at a place, 6,000 where no line stands there
abbrev pub bound_at : List AssocLine → ℕ → ℕ
bound_at lines place = bound_in (slice_get lines place)

-- what the lines say of the types; a place that they lack has no inverse and the bound 6,000
abbrev pub edge_types : List AssocLine → EdgeTypes
edge_types lines = record { inverse = λ atype. option_map atype_at (inverse_at lines atype.0); bound = λ atype. bound_at lines atype.0 }

-- the type of a name has the type at a place for its inverse
abbrev pub names_back : List AssocLine → ℕ → List ℕ → Bool
names_back lines place name = option_eq nat_eq (option_and_then (inverse_at lines) (place_of (names_of lines) name)) (Some place)

-- an inverse is a name, whose type names this one back
abbrev pub keeps_inverse_rule : List AssocLine → ℕ → Option (List ℕ) → Bool
keeps_inverse_rule lines place None = true
keeps_inverse_rule lines place (Some name) = is_name name && names_back lines place name

-- a name that stands at no earlier place, with an inverse that keeps its rule and a bound from 1 to 6,000
abbrev pub keeps_assoc_rules : List AssocLine → ℕ → AssocLine → Bool
keeps_assoc_rules lines place line = is_name line.name && option_eq nat_eq (place_of (names_of lines) line.name) (Some place)
    && keeps_inverse_rule lines place line.inverse && nat_le 1 line.bound && nat_le line.bound 6000

-- the lines themselves, where there are 1 to 64 and each keeps the rules of an association type; else the refusal
abbrev pub assocs_of : List AssocLine → Result (List AssocLine) SchemaRefusal
assocs_of lines = unless_broken Assocs lines (broken (keeps_assoc_rules lines) lines)
