use Rattle.std.proofs.Common.{◌≡◌, take}
use Rattle.core_model.specs.Fleet.{tiers_from, tiers_of}
use Rattle.core_model.proofs.names.region_followers.Given as goal

abbrev pub invariant-loop-tier : goal.invariant-loop-tier
invariant-loop-tier l = l.names.items ≡ tiers_from l.region 0 (take l.tier (tiers_of l.config l.region))
