use Rattle.std.proofs.Common.{◌≡◌, take}
use Rattle.core_model.specs.Fleet.{followers_from, regions_of}
use Rattle.core_model.proofs.names.follower_names.Given as goal

abbrev pub invariant-loop-region : goal.invariant-loop-region
invariant-loop-region l = l.names.items ≡ followers_from 0 (take l.region (regions_of l.config))
