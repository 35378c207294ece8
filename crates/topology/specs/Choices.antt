-- Who serves.
use Rattle.std.specs.Prelude.{ℕ, ◌-◌, ◌%◌, min, ◌++◌, not, ◌&&◌, List, length, map, Bool, Option, slice_index}
use Rattle.std.specs.List.{find, range_with_len}
use Rattle.node_name.specs.declared.NodeName.{NodeName}
use Rattle.node_name.specs.declared.NodeName.TheVariants.{Leader, Follower}
use Rattle.topology.specs.Counts.{NodeCounts, follower_count, leader_count, tier_count}
use Rattle.topology.specs.States.{NodeStates, is_up}
use Rattle.topology.specs.Suspicions.{suspicion_of, suspects}

-- the places below a count, from one on round about: that and those after it, then those before it
abbrev pub round_from : ℕ → ℕ → List ℕ
round_from first count = range_with_len first (count - first) ++ range_with_len 0 (min first count)

-- the follower of a tier that serves a shard
abbrev pub serving_follower : List NodeCounts → ℕ → ℕ → ℕ → NodeName
serving_follower regions region tier shard = Follower region tier (shard % follower_count regions region tier)

-- the followers of a region that serve a shard, one of each tier, from a tier on round about
abbrev pub followers_in_turn : List NodeCounts → ℕ → ℕ → ℕ → List NodeName
followers_in_turn regions region tier shard = map (λ t. serving_follower regions region t shard) (round_from tier (tier_count regions region))

-- the leaders of a region, from the one on that serves a shard, round about
abbrev pub leaders_in_turn : List NodeCounts → ℕ → ℕ → List NodeName
leaders_in_turn regions region shard = map (λ index. Leader region index) (round_from (shard % leader_count regions region) (leader_count regions region))

-- a shard is read at the first follower in turn that is up
abbrev pub chosen_follower : NodeStates → ℕ → ℕ → ℕ → Option NodeName
chosen_follower states region tier shard = find (is_up states) (followers_in_turn states.regions region tier shard)

-- a leader may serve where it is up and a tier, given by its region and place, doesn't suspect it
abbrev pub may_lead : NodeStates → ℕ × ℕ → NodeName → Bool
may_lead states by node = is_up states node && not (suspects states (suspicion_of by.0 by.1 node))

-- a shard is served by the first leader in turn that may serve
abbrev pub chosen_leader : NodeStates → ℕ × ℕ → ℕ → ℕ → Option NodeName
chosen_leader states by region shard = find (may_lead states by) (leaders_in_turn states.regions region shard)

-- the preferred leader of a region serves the shard, up or not
abbrev pub preferred_leader : NodeStates → ℕ → ℕ → NodeName
preferred_leader states region shard = Leader region (shard % leader_count states.regions region)

-- the region whose store of a shard is the master
abbrev pub master_region : NodeStates → ℕ → ℕ
master_region states shard = slice_index states.masters (shard % length states.masters)
