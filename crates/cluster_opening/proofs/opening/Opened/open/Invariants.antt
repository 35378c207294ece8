use Rattle.std.specs.Prelude.{length}
use Rattle.cluster_opening.proofs.opening.Opened.open.Given as goal

-- so many keepers as were given, with the shards of the configuration
abbrev pub ghosts-open_placed : goal.ghosts-open_placed
ghosts-open_placed g a = record { shards = a.config.now.shards; count = length a.keepers.items }
