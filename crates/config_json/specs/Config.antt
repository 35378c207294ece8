-- The configuration line: what it says, or the first field that breaks a rule.
use Rattle.std.specs.Prelude.{ℕ, List, [], ◌∷◌, Option, Some, None, Result, Ok, Err, codes}
use Rattle.outcomes.specs.Results.{◌>>=◌}
use Rattle.serde_json.specs.Data.{Data}
use Rattle.json_fields.specs.Fields.{number_at, number_or, strange_at}
use Rattle.topology.specs.Config.{Settings}
use Rattle.config_json.specs.Object.{line_object}
use Rattle.config_json.specs.Regions.{regions_at, masters_at}
use Rattle.config_json.specs.Types.{objects_at, assocs_at}
use Rattle.config_json.specs.declared.refusal.ConfigRefusal.{ConfigRefusal}
use Rattle.config_json.specs.declared.refusal.ConfigRefusal.TheVariants.{BadConfig}

-- what the field says, or a refusal that names it
abbrev pub in_field : {A : Type 0} → List ℕ → Option A → Result A ConfigRefusal
in_field field (Some said) = Ok said
in_field field None = Err (BadConfig field)

-- the settings, or a refusal that names the strange field, where there is one
abbrev pub unless_strange : Option (List ℕ) → Settings → Result Settings ConfigRefusal
unless_strange None settings = Ok settings
unless_strange (Some field) settings = Err (BadConfig field)

-- the fields that an object may have
abbrev pub field_names : List (List ℕ)
field_names = codes "shards" ∷ codes "regions" ∷ codes "masters" ∷ codes "objects" ∷ codes "assocs" ∷ codes "log_max" ∷ codes "cache_items" ∷ []

-- what the object says: its fields are read in this order, and the first that breaks a rule is refused
abbrev pub config_of : Data → Result Settings ConfigRefusal
config_of d = do
  shards ← in_field (codes "shards") (number_at (codes "shards") 1 64 d)
  regions ← in_field (codes "regions") (regions_at d)
  masters ← in_field (codes "masters") (masters_at regions d)
  objects ← in_field (codes "objects") (objects_at d)
  assocs ← in_field (codes "assocs") (assocs_at d)
  log_max ← in_field (codes "log_max") (number_or (codes "log_max") 16384 1 65536 d)
  cache_items ← in_field (codes "cache_items") (number_or (codes "cache_items") 1024 1 65536 d)
  unless_strange (strange_at field_names d)
      (record {
        schema = record { objects = objects; assocs = assocs };
        shards = shards;
        regions = regions;
        masters = masters;
        log_max = log_max;
        cache_items = cache_items;
      })

-- what a line says; a line that is no object breaks the field without a name
abbrev pub config_in : List ℕ → Result Settings ConfigRefusal
config_in line = do
  d ← in_field [] (line_object line)
  config_of d
