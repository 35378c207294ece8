use Rattle.std.proofs.Common.{◌≡◌, ◌++◌, drop, map}
use Rattle.load_gen.proofs.names.add_tiers.Given as goal

-- the tiers so far, with those that are left, are those before and all of the region
abbrev pub invariant-loop-tier : goal.invariant-loop-tier
invariant-loop-tier l = l.names.items ++ map (λ tier. record { region = l.region.name; tier = tier.name }) (drop l.tier-index l.tiers)
    ≡ l.fn.names.items ++ map (λ tier. record { region = l.region.name; tier = tier.name }) l.tiers
