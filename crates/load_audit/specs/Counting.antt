-- Edges that are counted from the last record of a log to its first.
use Rattle.std.specs.Prelude.{◌≡◌, ◌++◌, List}
use Rattle.std.specs.List.{list_any}
use Rattle.std.specs.HashSet.{contains}
use Rattle.graph_model.specs.Soundness.{EdgeUpdate}
use Rattle.write_model.specs.Writes.{same_edge}
use Rattle.load_audit.specs.LiveEdges.{live_among}
use Rattle.load_audit.specs.Logged.{logged_edge, same_logged}
use Rattle.load_audit.specs.declared.live.LiveCount.{LiveCount}

-- the edges of these last records were met, and those that they leave live were counted
pub record HasMet (later : List EdgeUpdate) (count : LiveCount) : Type 0 where
  pub live_is : count.live ≡ live_among later
  pub met_are : (u : EdgeUpdate) → contains same_logged count.met (logged_edge u) ≡ list_any (same_edge u) later

-- more records were met, which come before the later ones
abbrev pub MeetsMore : List EdgeUpdate → LiveCount → LiveCount → Type 0
MeetsMore records old new = (later : List EdgeUpdate) → HasMet later old → HasMet (records ++ later) new
