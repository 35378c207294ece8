-- What is shown of the cache nodes of a core.
use Rattle.std.specs.Prelude.{ℕ, ◌≡◌, List, Option, Some, None, option_and_then}
use Rattle.std.specs.Option.{option_map}
use Rattle.cache_items.specs.Node.{Node, item_at}
use Rattle.cache_items.specs.declared.item.Item.{Item}
use Rattle.follower_cache.specs.Seen.{FollowerState}
use Rattle.node_name.specs.declared.NodeName.{NodeName}
use Rattle.node_name.specs.declared.NodeName.TheVariants.{Store, Leader, Follower}
use Rattle.served_shards.specs.Served.{low_at}
use Rattle.tao_base.specs.declared.id.Key.{Key}
use Rattle.core_model.specs.Fleet.{Fleet, HasNode, IsNodeOfName}
use Rattle.core_model.specs.declared.named.Named.{Named}

-- the follower of that name has this node
abbrev pub IsFollowersNode : NodeName → Fleet → Option Node → Type 0
IsFollowersNode name f None = HasNode name f.followers → ⊥
IsFollowersNode name f (Some node) = (follower : FollowerState) × IsNodeOfName name f.followers (Some follower) × (node ≡ follower.node)

-- the leader or follower of that name, where there is one
abbrev pub IsCacheNode : NodeName → Fleet → Option Node → Type 0
IsCacheNode (Store store) f found = found ≡ None
IsCacheNode (Leader region index) f found = IsNodeOfName (Leader region index) f.leaders found
IsCacheNode (Follower region tier index) f found = IsFollowersNode (Follower region tier index) f found

-- the item at a key of a node, where there is one
abbrev pub item_of : Key → Option Node → Option Item
item_of key node = option_and_then (λ n. item_at n.items key) node

-- the low-water mark of a node for a shard, where there is a node
abbrev pub mark_of : ℕ → Option Node → Option ℕ
mark_of shard node = option_map (λ n. low_at shard n.served) node

-- this is read of the node of that name among its like
pub record IsReadOf {N T : Type 0} (node : N → Node) (read : Option Node → T) (name : NodeName) (nodes : List (Named N)) (found : T) : Type 0 where
  pub cache : Option N
  pub is : IsNodeOfName name nodes cache
  pub found_is : found ≡ read (option_map node cache)

-- what a leader or follower holds at a key
pub record IsHeldAt (f : Fleet) (name : NodeName) (key : Key) (found : Option Item) : Type 0 where
  pub node : Option Node
  pub is : IsCacheNode name f node
  pub found_is : found ≡ item_of key node

-- the low-water mark of a leader or follower for a shard: 0 where it doesn't serve the shard, None where there is no such node
pub record IsMarkAt (f : Fleet) (name : NodeName) (shard : ℕ) (mark : Option ℕ) : Type 0 where
  pub node : Option Node
  pub is : IsCacheNode name f node
  pub mark_is : mark ≡ mark_of shard node
