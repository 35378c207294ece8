use Rattle.std.specs.Prelude.{length}
use Rattle.cluster_closing.proofs.closed.Closed.settle.Given as goal

-- so many keepers as there are, with the shards of the configuration
abbrev pub ghosts-settle_with : goal.ghosts-settle_with
ghosts-settle_with g a = record { shards = g.J.Sharing.making.settings.shards; count = length a.keepers.items }
