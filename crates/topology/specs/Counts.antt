-- How many nodes the regions of a configuration have.
use Rattle.std.specs.Prelude.{ℕ, ◌≤◌, List, length, map, All, option_and_then, option_map, unwrap_or, slice_get}
use Rattle.topology.specs.declared.regions.Region.{Region}

-- how many leaders a region has, and how many followers each of its tiers
pub record NodeCounts : Type 0 where
  pub leaders : ℕ
  pub followers : List ℕ

-- how many leaders the region has, and how many followers each of its tiers, in their order
abbrev pub counts_of : Region → NodeCounts
counts_of region = record { leaders = region.leaders; followers = map (λ tier. tier.followers) region.tiers }

-- one to four leaders, at most four tiers, and one to four followers in each
pub record KeepCounts (counts : NodeCounts) : Type 0 where
  pub leader : 1 ≤ counts.leaders
  pub leaders : counts.leaders ≤ 4
  pub tiers : length counts.followers ≤ 4
  pub followers : All (λ count. (1 ≤ count) × (count ≤ 4)) counts.followers

-- how many leaders the region at a place has; none where there is no such region
abbrev pub leader_count : List NodeCounts → ℕ → ℕ
leader_count regions region = unwrap_or (option_map (λ r. r.leaders) (slice_get regions region)) 0

-- how many tiers the region at a place has; none where there is no such region
abbrev pub tier_count : List NodeCounts → ℕ → ℕ
tier_count regions region = unwrap_or (option_map (λ r. length r.followers) (slice_get regions region)) 0

-- how many followers the tier at a place of a region has; none where there is no such tier
abbrev pub follower_count : List NodeCounts → ℕ → ℕ → ℕ
follower_count regions region tier = unwrap_or (option_and_then (λ r. slice_get r.followers tier) (slice_get regions region)) 0
