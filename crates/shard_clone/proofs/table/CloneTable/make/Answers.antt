use Rattle.std.proofs.Common.{ap, ◌∙◌}
use Rattle.shard_clone.specs.Clones.{clones_of, no_clones}
use Rattle.shard_clone.proofs.table.CloneTable.make.Goals as goal

pub returns : goal.returns
returns c = (λ i. clones_of (c.in_ok-region_counts.ensures.counts i) c.config.inside.shards (c.in_ok-make.ensures i)) ∙ ap no_clones c.config.view_is
