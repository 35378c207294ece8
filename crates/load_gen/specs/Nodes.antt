-- The cache nodes of a configuration.
use Rattle.std.specs.Prelude.{ℕ, ◌+◌, List, [], ◌∷◌, ◌++◌, map}
use Rattle.std.specs.List.{range_with_len}
use Rattle.node_name.specs.declared.NodeName.{NodeName}
use Rattle.node_name.specs.declared.NodeName.TheVariants.{Leader, Follower}
use Rattle.topology.specs.declared.regions.Region.{Region}
use Rattle.topology.specs.declared.tiers.Tier.{Tier}

-- the followers of a region's tiers, tier by tier, the first of which stands at a place
abbrev pub followers_from : ℕ → ℕ → List Tier → List NodeName
followers_from region place [] = []
followers_from region place (tier ∷ tiers) = map (Follower region place) (range_with_len 0 tier.followers) ++ followers_from region (place + 1) tiers

-- the cache nodes of the region at a place: its leaders, then its tiers' followers
abbrev pub region_nodes : ℕ → Region → List NodeName
region_nodes place region = map (Leader place) (range_with_len 0 region.leaders) ++ followers_from place 0 region.tiers

-- the cache nodes of the regions, region by region, the first of which stands at a place
abbrev pub nodes_from : ℕ → List Region → List NodeName
nodes_from place [] = []
nodes_from place (region ∷ regions) = region_nodes place region ++ nodes_from (place + 1) regions
