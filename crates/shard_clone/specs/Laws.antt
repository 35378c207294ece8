-- What picking comes to without clones.
use Rattle.std.specs.Prelude.{◌≡◌, ℕ, IsFalse}
use Rattle.node_name.specs.declared.NodeName.{NodeName}
use Rattle.topology.specs.Choices.{chosen_follower}
use Rattle.topology.specs.States.{NodeStates}
use Rattle.shard_clone.specs.Clones.{Clones, is_clone}
use Rattle.shard_clone.specs.Picks.{picked}

-- where a shard has no clone, each session reads it at the follower that the topology gives
abbrev pub WithoutClones : Clones → NodeStates → ℕ → Type 0
WithoutClones c states shard = c.regions ≡ states.regions → ((node : NodeName) → IsFalse (is_clone c node shard))
    → (region tier session : ℕ) → picked c states region tier shard session ≡ chosen_follower states region tier shard
