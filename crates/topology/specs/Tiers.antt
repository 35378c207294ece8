-- The follower tiers of a region.
use Rattle.std.specs.Prelude.{ℕ, Bool, not, ◌&&◌, ◌||◌, List, length, map, bytes_eq, codes, Option}
use Rattle.std.specs.List.{list_all, position_from}
use Rattle.topology.specs.Named.{are_different, in_range}
use Rattle.topology.specs.declared.tiers.Tier.{Tier}

-- the names that a region's other nodes have
abbrev pub is_reserved : List ℕ → Bool
is_reserved name = bytes_eq name (codes "leader") || bytes_eq name (codes "store")

-- whether the tier has one to four followers, and a name that isn't reserved
abbrev pub is_tier : Tier → Bool
is_tier tier = not (is_reserved tier.name) && in_range 1 4 tier.followers

-- whether there are one to four tiers, each with one to four followers and a name that isn't reserved, and no two of one name
abbrev pub are_tiers : List Tier → Bool
are_tiers tiers = in_range 1 4 (length tiers) && list_all is_tier tiers && are_different (map (λ tier. tier.name) tiers)

-- the first place, from 0, of a tier of that name
abbrev pub tier_at : List Tier → List ℕ → Option ℕ
tier_at tiers name = position_from (λ tier. bytes_eq name tier.name) 0 tiers
