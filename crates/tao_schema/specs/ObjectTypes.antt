-- Which names are those of the object types.
use Rattle.std.specs.Prelude.{ℕ, Bool, List, Some, Result, nat_eq, ◌&&◌}
use Rattle.std.specs.Option.{option_eq}
use Rattle.tao_base.specs.declared.id.OType.{OType}
use Rattle.tao_base.specs.Names.{is_name}
use Rattle.tao_schema.specs.Names.{place_of}
use Rattle.tao_schema.specs.Rules.{broken, unless_broken}
use Rattle.tao_schema.specs.declared.refusal.SchemaField.TheVariants.{Objects}
use Rattle.tao_schema.specs.declared.refusal.SchemaRefusal.{SchemaRefusal}

-- a name, which stands at no earlier place
abbrev pub keeps_object_rules : List (List ℕ) → ℕ → List ℕ → Bool
keeps_object_rules names place name = is_name name && option_eq nat_eq (place_of names name) (Some place)

-- the names themselves, where there are 1 to 64 and each keeps the rules of an object type; else the refusal
abbrev pub objects_of : List (List ℕ) → Result (List (List ℕ)) SchemaRefusal
objects_of names = unless_broken Objects names (broken (keeps_object_rules names) names)

-- the type at a place
abbrev pub otype_at : ℕ → OType
otype_at place = record { 0 = place }
