-- Which lists a schema takes: 1 to 64 entries, each of which keeps the rules of its list.
use Rattle.std.specs.Prelude.{ℕ, Bool, List, [], ◌∷◌, length, Option, Some, None, Result, Ok, Err, nat_le, ◌&&◌, if◌then◌else◌, ◌+◌}
use Rattle.tao_schema.specs.declared.refusal.SchemaField.{SchemaField}
use Rattle.tao_schema.specs.declared.refusal.SchemaRefusal.{SchemaRefusal}
use Rattle.tao_schema.specs.declared.refusal.SchemaRefusal.TheVariants.{BadField}

-- the least place, counted on from `place`, whose entry breaks a rule
abbrev pub broken_from : {A : Type 0} → (ℕ → A → Bool) → ℕ → List A → Option ℕ
broken_from keeps place [] = None
broken_from keeps place (entry ∷ entries) = if keeps place entry then broken_from keeps (place + 1) entries else Some place

-- what a refusal names: the length where it is out of range, else the least place of an entry that breaks a rule
abbrev pub broken : {A : Type 0} → (ℕ → A → Bool) → List A → Option ℕ
broken keeps entries = if nat_le 1 (length entries) && nat_le (length entries) 64 then broken_from keeps 0 entries else Some (length entries)

-- the list itself, or its refusal
abbrev pub unless_broken : {A : Type 0} → SchemaField → List A → Option ℕ → Result (List A) SchemaRefusal
unless_broken field entries None = Ok entries
unless_broken field entries (Some place) = Err (BadField field place)
