-- The texts of nodes, by the names of their regions and tiers.
use Rattle.std.specs.Prelude.{ℕ, List, [], ◌++◌, option_map, option_and_then, unwrap_or, slice_get, codes, decimal}
use Rattle.node_name.specs.declared.NodeName.{NodeName}
use Rattle.node_name.specs.declared.NodeName.TheVariants.{Store, Leader, Follower}
use Rattle.topology.specs.Config.{Settings}
use Rattle.topology.specs.declared.regions.Region.{Region}

-- the name of the region at a place; the empty text where there is none
abbrev pub region_name : List Region → ℕ → List ℕ
region_name regions place = unwrap_or (option_map (λ region. region.name) (slice_get regions place)) []

-- the name of the tier at a place of a region; the empty text where there is none
abbrev pub tier_name : List Region → ℕ → ℕ → List ℕ
tier_name regions region place = unwrap_or (option_and_then (λ r. option_map (λ tier. tier.name) (slice_get r.tiers place)) (slice_get regions region)) []

-- a region's name, a word and a number in decimal, with a `/` between them
abbrev pub spelled : List ℕ → List ℕ → ℕ → List ℕ
spelled region word number = region ++ codes "/" ++ word ++ codes "/" ++ decimal number

-- a node's text
abbrev pub node_text : Settings → NodeName → List ℕ
node_text s (Store store) = spelled (region_name s.regions store.region) (codes "store") store.shard
node_text s (Leader region index) = spelled (region_name s.regions region) (codes "leader") index
node_text s (Follower region tier index) = spelled (region_name s.regions region) (tier_name s.regions region tier) index
