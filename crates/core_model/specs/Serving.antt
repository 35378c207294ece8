-- Which nodes may be asked about a shard.
use Rattle.std.specs.Prelude.{ℕ, ◌≡◌, ◌<◌, Contains, IsTrue}
use Rattle.node_name.specs.declared.NodeName.{NodeName}
use Rattle.node_name.specs.declared.NodeName.TheVariants.{Leader}
use Rattle.topology.specs.Config.{Settings}
use Rattle.core_model.specs.Fleet.{follower_names, leader_names, serves}

-- the follower is one of the configuration's, and serves the shard, which is configured
pub record IsFollowerFor (s : Settings) (shard : ℕ) (name : NodeName) : Type 0 where
  pub here : shard < s.shards
  pub configured : Contains (follower_names s) name
  pub serves : IsTrue (serves s name shard)

-- the leader is one of the configuration's, of that region. It may stand in for another, and not serve the shard that it is asked of
pub record IsLeaderIn (s : Settings) (region : ℕ) (name : NodeName) : Type 0 where
  pub index : ℕ
  pub name_is : name ≡ Leader region index
  pub configured : Contains (leader_names s) name

-- the leader is one of the configuration's, and serves the shard, which is configured
pub record IsLeaderFor (s : Settings) (shard : ℕ) (name : NodeName) : Type 0 where
  pub here : shard < s.shards
  pub configured : Contains (leader_names s) name
  pub serves : IsTrue (serves s name shard)
