-- Which lists make a schema, what it says of the association types, and how long lists are kept.
use Rattle.std.specs.Prelude.{ℕ, List, Result, Ok}
use Rattle.outcomes.specs.Results.{◌>>=◌}
use Rattle.tao_base.specs.EdgeTypes.{EdgeTypes}
use Rattle.tao_base.specs.declared.id.Key.{Key}
use Rattle.tao_base.specs.declared.id.Key.TheVariants.{Obj, List as Assocs}
use Rattle.tao_schema.specs.AssocTypes.{assocs_of, edge_types}
use Rattle.tao_schema.specs.ObjectTypes.{objects_of}
use Rattle.tao_schema.specs.declared.lines.AssocLine.{AssocLine}
use Rattle.tao_schema.specs.declared.refusal.SchemaRefusal.{SchemaRefusal}
use Rattle.tao_schema.specs.declared.schema.Schema.{Schema}

-- the lists themselves, or the first refusal
abbrev pub schema_of : List (List ℕ) → List AssocLine → Result Schema SchemaRefusal
schema_of objects assocs = do
  object_types ← objects_of objects
  assoc_types ← assocs_of assocs
  Ok (record { objects = object_types; assocs = assoc_types })

-- what the schema says of the association types
abbrev pub types_of : Schema → EdgeTypes
types_of schema = edge_types schema.assocs

-- how many edges the list of a key is kept with; 0 for an object
abbrev pub key_bound : EdgeTypes → Key → ℕ
key_bound types (Obj id) = 0
key_bound types (Assocs id1 atype) = types.bound atype
