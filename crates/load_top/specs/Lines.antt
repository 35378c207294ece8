-- The lines that a load writes.
use Rattle.std.specs.Prelude.{ℕ, ◌≡◌, ◌⊎◌, List, [], ◌∷◌, ◌++◌, Option}
use Rattle.reply_json.specs.Loads.{bad_load_text, load_text}
use Rattle.tao_busy.specs.declared.asked.LoadSummary.{LoadSummary}

-- the line of a summary
abbrev pub summary_line : LoadSummary → List ℕ
summary_line summary = load_text summary.edges summary.logs summary.refused ++ 10 ∷ []

-- the line that no good came of a load
abbrev pub bad_line : List ℕ
bad_line = bad_load_text ++ 10 ∷ []

-- the line is one of a load's
abbrev pub IsLoadLine : List ℕ → Type 0
IsLoadLine line = (line ≡ bad_line) ⊎ ((summary : LoadSummary) × (line ≡ summary_line summary))
