-- The object types and the association types. That a name is one and stands alone, that inverses match, and how
-- many types there may be are rules of the schema: `objects_of` and `assocs_of`.
use Rattle.std.specs.Prelude.{ℕ, List, [], ◌∷◌, Option, codes}
use Rattle.std.specs.Bool.{then_some}
use Rattle.std.specs.Result.{result_ok}
use Rattle.serde_json.specs.Data.{Data}
use Rattle.serde_json.specs.Find.{as_str}
use Rattle.outcomes.specs.Options.{◌>>=◌}
use Rattle.json_fields.specs.Fields.{text_at, maybe_text_at, number_or, has_only}
use Rattle.tao_schema.specs.AssocTypes.{assocs_of}
use Rattle.tao_schema.specs.ObjectTypes.{objects_of}
use Rattle.tao_schema.specs.declared.lines.AssocLine.{AssocLine}
use Rattle.json_fields.specs.Items.{each_at}

-- 1 to 64 names, all different
abbrev pub objects_at : Data → Option (List (List ℕ))
objects_at d = do
  names ← each_at as_str (codes "objects") d
  result_ok (objects_of names)

-- an association type has a name, an inverse, none where it isn't given, and a bound of 1 to 6,000, 6,000 where it
-- isn't given
abbrev pub assoc_of : Data → Option AssocLine
assoc_of d = do
  name ← text_at (codes "name") d
  inverse ← maybe_text_at (codes "inverse") d
  bound ← number_or (codes "bound") 6000 1 6000 d
  then_some (has_only (codes "name" ∷ codes "inverse" ∷ codes "bound" ∷ []) d) (record { name = name; inverse = inverse; bound = bound })

-- 1 to 64 association types, whose names differ and whose inverses match
abbrev pub assocs_at : Data → Option (List AssocLine)
assocs_at d = do
  lines ← each_at assoc_of (codes "assocs") d
  result_ok (assocs_of lines)
