-- The text that tells of a load.
use Rattle.std.specs.Prelude.{ℕ, List, [], ◌∷◌, codes}
use Rattle.serde_json.specs.Data.{Data}
use Rattle.serde_json.specs.Written.{compact_text}
use Rattle.reply_json.specs.Json.{fields, text, whole}
use Rattle.reply_json.specs.Values.{lengths_data}

-- what came of a load is told by the number of live edges, the lengths of the logs, and the number of calls that were refused
abbrev pub load_data : ℕ → List ℕ → ℕ → Data
load_data edges logs refused =
    fields ((codes "edges", whole edges) ∷ (codes "logs", lengths_data logs) ∷ (codes "ok", text (codes "load")) ∷ (codes "refused", whole refused) ∷ [])

-- the text of what came of a load: JSON without spaces
abbrev pub load_text : ℕ → List ℕ → ℕ → List ℕ
load_text edges logs refused = compact_text (load_data edges logs refused)

-- the text of a load that came to no good end
abbrev pub bad_load_text : List ℕ
bad_load_text = compact_text (fields ((codes "bad", text (codes "load")) ∷ []))
