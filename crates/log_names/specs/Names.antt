-- The logs of a cluster's shards, by their names.
use Rattle.std.specs.Prelude.{ℕ, ◌≡◌, false, []}
use Rattle.shard_log.specs.View.{LogName, View}

-- the name of each shard's log
abbrev pub LogNames : Type 0
LogNames = ℕ → LogName

-- what was seen is a beginning of the shard's log
abbrev pub IsOfLog : LogNames → ℕ → View → Type 0
IsOfLog log shard view = view.log ≡ log shard

-- the names that stand where no logs were picked
abbrev pub unnamed_logs : LogNames
unnamed_logs shard = record {
  table = record { words = 0; slots = 0; views_name = 0; atom = 0; block = 0; offset = 0; slot_names = [] };
  told = false;
  pins = [];
}
