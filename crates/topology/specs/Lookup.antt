-- Tiers and nodes by their names.
use Rattle.std.specs.Prelude.{ℕ, Bool, ◌==◌, ◌&&◌, ◌||◌, List, length, Option, option_and_then, option_map, unwrap_or, slice_get, slice_index, codes}
use Rattle.std.specs.Prelude.{bytes_eq, decimal, nat_lt, if◌then◌else◌}
use Rattle.std.specs.Bool.{then_some}
use Rattle.std.specs.List.{position_or_len, before_first, after_first}
use Rattle.std.specs.Str.Parse.{digits_value}
use Rattle.outcomes.specs.Options.{◌>>=◌}
use Rattle.node_name.specs.declared.NodeName.{NodeName}
use Rattle.node_name.specs.declared.NodeName.TheVariants.{Store, Leader, Follower}
use Rattle.topology.specs.Config.{Settings}
use Rattle.topology.specs.Regions.{region_at}
use Rattle.topology.specs.Tiers.{tier_at}
use Rattle.topology.specs.declared.regions.Region.{Region}

-- the place of the tier of that name in the region at a place
abbrev pub tier_in : List Region → ℕ → List ℕ → Option ℕ
tier_in regions region name = option_and_then (λ r. tier_at r.tiers name) (slice_get regions region)

-- how many leaders the region at a place has; none where there is no such region
abbrev pub leaders_of : List Region → ℕ → ℕ
leaders_of regions region = unwrap_or (option_map (λ r. r.leaders) (slice_get regions region)) 0

-- how many followers the tier at a place of a region has; none where there is no such tier
abbrev pub followers_of : List Region → ℕ → ℕ → ℕ
followers_of regions region tier = unwrap_or (option_and_then (λ r. option_map (λ t. t.followers) (slice_get r.tiers tier)) (slice_get regions region)) 0

-- the number below the count that a text is, in decimal without leading zeros: what is written of its value is the text
abbrev pub number_below : ℕ → List ℕ → Option ℕ
number_below count text = then_some (nat_lt (digits_value 10 text) count && bytes_eq (decimal (digits_value 10 text)) text) (digits_value 10 text)

-- a sign or a zero too many stands before a number
abbrev pub is_padded : List ℕ → Bool
is_padded text = (slice_index text 0 == 43) || ((slice_index text 0 == 48) && nat_lt 1 (length text))

-- whether the byte is `/`
abbrev pub is_slash : ℕ → Bool
is_slash byte = byte == 47

-- what stands before the first `/` of a text, and what after it; None where it has no `/`
abbrev pub parts : List ℕ → Option (List ℕ × List ℕ)
parts text = then_some (nat_lt (position_or_len is_slash text) (length text)) (before_first is_slash text, after_first is_slash text)

-- the node of a region that a word and a number mean: a store, a leader, or a follower of the tier of that name
abbrev pub node_in : Settings → ℕ → List ℕ → List ℕ → Option NodeName
node_in s region word number =
    if bytes_eq word (codes "store") then option_map (λ shard. Store (record { region = region; shard = shard })) (number_below s.shards number)
    else (if bytes_eq word (codes "leader") then option_map (λ index. Leader region index) (number_below (leaders_of s.regions region) number)
    else option_and_then (λ tier. option_map (λ index. Follower region tier index) (number_below (followers_of s.regions region tier) number))
    (tier_in s.regions region word))

-- the configured node of a text: a region's name, a word and a number, with a `/` between them
abbrev pub node_at : Settings → List ℕ → Option NodeName
node_at s text = do
  first ← parts text
  second ← parts first.1
  region ← region_at s.regions first.0
  node_in s region second.0 second.1
