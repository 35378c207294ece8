-- Which follower a session reads at.
use Rattle.std.specs.Prelude.{ℕ, ◌%◌, Bool, not, ◌&&◌, ◌==◌, if◌then◌else◌, List, [], ◌∷◌, ◌++◌, length, map, filter, Option, option_and_then}
use Rattle.std.specs.Prelude.{nat_lt, slice_get}
use Rattle.std.specs.List.{find, range_with_len}
use Rattle.node_name.specs.declared.NodeName.{NodeName}
use Rattle.node_name.specs.declared.NodeName.TheVariants.{Follower}
use Rattle.topology.specs.Choices.{round_from, serving_follower}
use Rattle.topology.specs.Counts.{follower_count, tier_count}
use Rattle.topology.specs.States.{NodeStates, is_up}
use Rattle.shard_clone.specs.Clones.{Clones, serves}

-- a node is up and serves the shard
abbrev pub is_able : Clones → NodeStates → ℕ → NodeName → Bool
is_able c states shard node = is_up states node && serves c node shard

-- the preferred follower of a tier, where it is up and serves the shard
abbrev pub first_server : Clones → NodeStates → ℕ → ℕ → ℕ → List NodeName
first_server c states region tier shard =
    if is_able c states shard (serving_follower c.regions region tier shard) then serving_follower c.regions region tier shard ∷ [] else []

-- whether the follower of this index is another one of the tier that is up and serves the shard
abbrev pub is_other : Clones → NodeStates → ℕ → ℕ → ℕ → ℕ → Bool
is_other c states region tier shard index =
    not (index == shard % follower_count c.regions region tier) && is_able c states shard (Follower region tier index)

-- the indices of those, in their order
abbrev pub other_servers : Clones → NodeStates → ℕ → ℕ → ℕ → List ℕ
other_servers c states region tier shard = filter (is_other c states region tier shard) (range_with_len 0 (follower_count c.regions region tier))

-- the followers of a tier that are up and serve the shard, the preferred one first and then the others in order of index
abbrev pub servers_in : Clones → NodeStates → ℕ → ℕ → ℕ → List NodeName
servers_in c states region tier shard =
    first_server c states region tier shard ++ map (λ index. Follower region tier index) (other_servers c states region tier shard)

-- the one of them at the place that is a number modulo how many there are; none of none
abbrev pub at_turn : ℕ → List NodeName → Option NodeName
at_turn number nodes = slice_get nodes (number % length nodes)

-- whether a tier has a follower that is up and serves the shard
abbrev pub has_server : Clones → NodeStates → ℕ → ℕ → ℕ → Bool
has_server c states region shard tier = nat_lt 0 (length (servers_in c states region tier shard))

-- the tiers of a region, from one on round about
abbrev pub tiers_in_turn : Clones → ℕ → ℕ → List ℕ
tiers_in_turn c region tier = round_from tier (tier_count c.regions region)

-- a session reads in the first tier in turn that has such a follower, at the one whose turn it is
abbrev pub picked : Clones → NodeStates → ℕ → ℕ → ℕ → ℕ → Option NodeName
picked c states region tier shard session =
    option_and_then (λ t. at_turn session (servers_in c states region t shard)) (find (has_server c states region shard) (tiers_in_turn c region tier))
