-- The first line of an input, as it was read and taken, or refused.
use Rattle.std.specs.Prelude.{◌≡◌, ◌⊎◌, ℕ, ◌≤◌, ◌^◌, List, [], ◌∷◌, ◌++◌, length, Option, Err}
use Rattle.std.specs.Io.KnownBytes.{Appends, Consumes, IsAtEnd, prepend_known}
use Rattle.config_json.specs.Config.{config_in}
use Rattle.config_json.specs.declared.refusal.ConfigRefusal.TheVariants.{BadConfig}
use Rattle.first_line.specs.Interrupts.{AppendsPart, Faults, InterruptHasCause, InterruptsWriting}
use Rattle.first_line.specs.declared.first.FirstStop.{FirstStop}
use Rattle.first_line.specs.declared.first.FirstStop.TheVariants as stop
use Rattle.reply_json.specs.Reply.{bad_configuration_data}
use Rattle.serde_json.specs.Written.{compact_text}
use Rattle.tao_io.specs.LineReader.{most_ahead}
use Rattle.tao_io.specs.Lines.{GivesLines}

-- the line that refuses the configuration for this field
abbrev pub refusal_line : List ℕ → List ℕ
refusal_line field = compact_text (bad_configuration_data field) ++ 10 ∷ []

-- ---- a line

-- the line is no configuration, and its refusal is written so
abbrev pub RefusesFor : List ℕ → (List ℕ → Type 0) → Type 0
RefusesFor line Writes = (field : List ℕ) × (config_in line ≡ Err (BadConfig field)) × Writes (refusal_line field)

-- nothing was written, or a front of that refusal
abbrev pub RefusesInPart : List ℕ → Option (List ℕ) → Option (List ℕ) → Type 0
RefusesInPart line before after = Appends before after [] ⊎ RefusesFor line (AppendsPart before after)

-- ---- the first line that comes out of known bytes

-- none came, since they have none
abbrev pub LacksLine : Option (List ℕ) → Option (List ℕ) → Type 0
LacksLine left rest = GivesLines left rest [] × IsAtEnd rest

-- none came, or one that is no configuration, and the refusal of that is written so
abbrev pub RefusesSo : Option (List ℕ) → Option (List ℕ) → (List ℕ → Type 0) → Type 0
RefusesSo left rest Writes = (LacksLine left rest × Writes (refusal_line [])) ⊎ ((line : List ℕ) × GivesLines left rest (line ∷ []) × RefusesFor line Writes)

-- none came that is a configuration, and the line that says so was written
abbrev pub RefusesFirst : Option (List ℕ) → Option (List ℕ) → Option (List ℕ) → Option (List ℕ) → Type 0
RefusesFirst left rest before after = RefusesSo left rest (Appends before after)

-- nothing was written, or none came that is a configuration, and a front of the line that says so was written
abbrev pub EndsAtFirst : Option (List ℕ) → Option (List ℕ) → Option (List ℕ) → Option (List ℕ) → Type 0
EndsAtFirst left rest before after = Appends before after [] ⊎ RefusesSo left rest (AppendsPart before after)

-- ---- the first line of a source, and what was taken past it

-- so it is of what the source had left, and what is to come after it: besides what the source has left now, at most the rest of the 65,536 bytes in which the
-- line's end came
abbrev pub PastFirst : Option (List ℕ) → (Option (List ℕ) → Type 0) → Type 0
PastFirst rest Is = (past : List ℕ) × (length past ≤ most_ahead) × Is (prepend_known past rest)

-- the line came first out of the known bytes
abbrev pub GivesFirst : Option (List ℕ) → Option (List ℕ) → List ℕ → Type 0
GivesFirst left rest line = PastFirst rest (λ more. GivesLines left more (line ∷ []))

-- no first line came that is a configuration, and the line that says so was written
abbrev pub RefusesAlone : Option (List ℕ) → Option (List ℕ) → Option (List ℕ) → Option (List ℕ) → Type 0
RefusesAlone left rest before after = PastFirst rest (λ more. RefusesFirst left more before after)

-- nothing was written, or no first line came that is a configuration, and a front of the line that says so was written
abbrev pub EndsAlone : Option (List ℕ) → Option (List ℕ) → Option (List ℕ) → Option (List ℕ) → Type 0
EndsAlone left rest before after = PastFirst rest (λ more. EndsAtFirst left more before after)

-- the first of the known bytes were taken, at most 2^40 of them
pub record Takes (before after : Option (List ℕ)) : Type 0 where
  pub bytes : List ℕ
  pub consumed : Consumes before after bytes
  pub few : length bytes ≤ 2 ^ 40

-- ---- why there is no configuration

-- the source or the sink interrupts only where that count rose
abbrev pub FirstHasCause : Faults → Faults → FirstStop → Type 0
FirstHasCause old new stop.Configuration = Unit {0}
FirstHasCause old new (stop.Interrupted interrupt) = InterruptHasCause old new interrupt

-- the writing of the refusal is interrupted only by the sink, where its count rose, or as out of memory
abbrev pub FirstWriting : ℕ → ℕ → FirstStop → Type 0
FirstWriting before now stop.Configuration = Unit {0}
FirstWriting before now (stop.Interrupted interrupt) = InterruptsWriting before now interrupt
