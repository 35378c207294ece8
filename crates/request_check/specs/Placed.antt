-- Where the names of calls, tiers and nodes that were checked lie.
use Rattle.std.specs.Prelude.{ℕ, ◌<◌, length, map, IsTrue}
use Rattle.node_name.specs.declared.NodeName.{NodeName}
use Rattle.node_name.specs.declared.NodeName.TheVariants.{Store, Leader, Follower}
use Rattle.tao_base.specs.Keys.{key_shard}
use Rattle.tao_base.specs.Queries.{query_key}
use Rattle.tao_base.specs.Writes.{write_shard, ChangesType}
use Rattle.tao_base.specs.declared.id.Key.{Key}
use Rattle.tao_base.specs.declared.write.Write.{Write}
use Rattle.tao_schema.specs.Schema.{types_of}
use Rattle.topology.specs.Config.{Settings}
use Rattle.topology.specs.Counts.{counts_of, tier_count}
use Rattle.topology.specs.Lookup.{followers_of, leaders_of}
use Rattle.request_check.specs.Kind.{takes}
use Rattle.request_check.specs.declared.checked.CheckedCall.{CheckedCall}
use Rattle.request_check.specs.declared.checked.CheckedCall.TheVariants.{Write as Writes, Read}
use Rattle.request_check.specs.declared.kind.NodeKind.TheVariants as of_kind

-- the write is of a configured shard, and a change of type is one
pub record IsPlacedWrite (s : Settings) (write : Write) : Type 0 where
  pub configured : write_shard write < s.shards
  pub changes : ChangesType (types_of s.schema) write

-- the key is of a configured shard
abbrev pub IsPlacedKey : Settings → Key → Type 0
IsPlacedKey s key = key_shard key < s.shards

-- the call's shard is one of the configuration's, and a change of an edge's type really changes it
abbrev pub IsPlacedCall : Settings → CheckedCall → Type 0
IsPlacedCall s (Writes call) = IsPlacedWrite s call.write
IsPlacedCall s (Read call) = IsPlacedKey s (query_key call.query)

-- the region is one of the configuration's, and the tier one of the region's
pub record IsPlacedTier (s : Settings) (region tier : ℕ) : Type 0 where
  pub configured : region < length s.regions
  pub within : tier < tier_count (map counts_of s.regions) region

-- the node is a leader or a follower of the configuration
abbrev pub IsPlacedNode : Settings → NodeName → Type 0
IsPlacedNode s (Store store) = ⊥
IsPlacedNode s (Leader region index) = index < leaders_of s.regions region
IsPlacedNode s (Follower region tier index) = index < followers_of s.regions region tier

-- a follower of the configuration
pub record IsPlacedFollower (s : Settings) (node : NodeName) : Type 0 where
  pub configured : IsPlacedNode s node
  pub follows : IsTrue (takes of_kind.Follower node)
