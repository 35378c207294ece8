-- Worked examples of who serves.
use Rattle.std.specs.Prelude.{ℕ, ◌≡◌, [], ◌∷◌, true, false, None, Some, replicate, slice_set}
use Rattle.node_name.specs.declared.NodeName.{NodeName}
use Rattle.node_name.specs.declared.NodeName.TheVariants.{Follower, Leader, Store}
use Rattle.topology.specs.Choices.{chosen_follower, chosen_leader, master_region, preferred_leader}
use Rattle.topology.specs.Counts.{NodeCounts}
use Rattle.topology.specs.States.{NodeStates, is_up, node_place}
use Rattle.topology.specs.Suspicions.{suspicion_of, suspicion_place}

-- two leaders, a tier of one follower and a tier of two
abbrev pub region : NodeCounts
region = record { leaders = 2; followers = 1 ∷ 2 ∷ [] }

-- two shards, of which the first region is the master of the first, and all nodes up and trusted
abbrev pub example_nodes : NodeStates
example_nodes = record { regions = region ∷ region ∷ []; masters = 0 ∷ 1 ∷ []; down = replicate 80 false; suspected = replicate 256 false }

-- a node goes down
abbrev pub with_down : NodeName → NodeStates → NodeStates
with_down node states = record states { down = slice_set states.down (node_place node) true }

-- a tier of the first region suspects a leader of that region
abbrev pub suspecting : ℕ → ℕ → NodeStates → NodeStates
suspecting tier index states = record states { suspected = slice_set states.suspected (suspicion_place (suspicion_of 0 tier (Leader 0 index))) true }

-- the one follower of the first tier is down
abbrev pub one_down : NodeStates
one_down = with_down (Follower 0 0 0) example_nodes

-- the one follower of the first tier and the second follower of the second tier are down
abbrev pub two_down : NodeStates
two_down = with_down (Follower 0 1 1) one_down

-- the first tier suspects the second leader
abbrev pub one_suspected : NodeStates
one_suspected = suspecting 0 1 example_nodes

-- the first tier suspects the second leader and the first leader is down: no leader is left for that tier
abbrev pub none_left : NodeStates
none_left = with_down (Leader 0 0) one_suspected

-- each node serves the shards of its turn. Where it is down or suspected the next one serves, round about, if there is one
pub record ChoicesByExample : Type 0 where
  pub master : master_region example_nodes 1 ≡ 1
  pub own_follower : chosen_follower example_nodes 0 0 1 ≡ Some (Follower 0 0 0)
  pub follower_in_turn : chosen_follower example_nodes 0 1 1 ≡ Some (Follower 0 1 1)
  pub leader_in_turn : chosen_leader example_nodes (0, 0) 0 1 ≡ Some (Leader 0 1)
  pub down : is_up one_down (Follower 0 0 0) ≡ false
  pub next_tier : chosen_follower one_down 0 0 1 ≡ Some (Follower 0 1 1)
  pub no_follower : chosen_follower two_down 0 1 1 ≡ None
  pub other_shard : chosen_follower two_down 0 1 0 ≡ Some (Follower 0 1 0)
  pub first_tier : chosen_follower (with_down (Follower 0 1 1) example_nodes) 0 1 1 ≡ Some (Follower 0 0 0)
  pub next_leader : chosen_leader one_suspected (0, 0) 0 1 ≡ Some (Leader 0 0)
  pub trusting_tier : chosen_leader one_suspected (0, 1) 0 1 ≡ Some (Leader 0 1)
  pub preferred : preferred_leader one_suspected 0 1 ≡ Leader 0 1
  pub no_leader : chosen_leader none_left (0, 0) 0 1 ≡ None
  pub store : is_up example_nodes (Store (record { region = 0; shard = 1 })) ≡ true
  pub unknown : is_up example_nodes (Leader 0 2) ≡ false
