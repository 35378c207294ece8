use Rattle.core_nodes.proofs.ShardLengths.{lengths_of_shards}
use Rattle.core_nodes.proofs.settling.shard_lengths.Goals as goal

pub returns : goal.returns
returns c =
    lengths_of_shards c.args.config.now c.args.lengths.now c.masters_are_regions.ensures (λ found. found.items) c.master_lengths.result c.master_lengths.ensures
