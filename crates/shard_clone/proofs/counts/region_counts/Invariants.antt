use Rattle.std.proofs.Common.{◌≡◌, All, map, take}
use Rattle.topology.specs.Counts.{KeepCounts, counts_of}
use Rattle.shard_clone.proofs.counts.region_counts.Given as goal

abbrev pub invariant-loop-region : goal.invariant-loop-region
invariant-loop-region l = (l.counts.items ≡ map counts_of (take l.region-index l.regions)) × All KeepCounts l.counts.items
