-- How a server ends.
use Rattle.std.specs.Prelude.{ℕ, ◌≡◌, ◌≢◌, ◌⊎◌, List, [], ◌∷◌, Ok, Contains}
use Rattle.std.specs.Io.KnownBytes.{Appends}
use Rattle.cluster_server.specs.Lines.{serving_line}
use Rattle.config_json.specs.Config.{config_in}
use Rattle.first_line.specs.First.{GivesFirst}
use Rattle.new_stores.specs.Streams.{Streams}
use Rattle.topology.specs.Config.{Settings}

-- the first line is a configuration, and the line that tells that it is served was written
pub record BeginsServer (old new : Streams) : Type 0 where
  pub line : List ℕ
  pub settings : Settings
  pub read : GivesFirst old.left new.left line
  pub configured : config_in line ≡ Ok settings
  pub said : Appends old.written new.written serving_line

-- the statuses of a server that began
abbrev pub WasServed : ℕ → Type 0
WasServed code = (code ≡ 0) ⊎ (code ≡ 11)

-- the status is none of these
pub record IsUnserved (code : ℕ) : Type 0 where
  pub unended : code ≢ 0
  pub unfailed : code ≢ 11

-- the statuses that a server may end with
abbrev pub IsServerStatus : ℕ → Type 0
IsServerStatus code = Contains (0 ∷ 3 ∷ 4 ∷ 5 ∷ 7 ∷ 9 ∷ 11 ∷ []) code
