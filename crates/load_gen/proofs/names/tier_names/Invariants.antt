use Rattle.std.proofs.Common.{◌≡◌, ◌≤◌, ◌*◌, ◌++◌, drop, length}
use Rattle.std.specs.List.{flat_map}
use Rattle.load_gen.specs.Names.{tiers_of}
use Rattle.load_gen.proofs.names.tier_names.Given as goal

-- the tiers so far, with those of the regions that are left, are all; each region has one to four
abbrev pub invariant-loop-region : goal.invariant-loop-region
invariant-loop-region l = (l.names.items ++ flat_map tiers_of (drop l.region-index l.regions) ≡ flat_map tiers_of l.regions)
    × (l.region-index ≤ length l.names.items) × (length l.names.items ≤ 4 * l.region-index)
