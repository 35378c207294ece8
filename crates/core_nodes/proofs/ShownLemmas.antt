-- The leader or follower of a name, where it was found among its like.
use Rattle.std.proofs.Common.{◌≡◌, ℕ, List, Option, Some, None, refl, sym, subst}
use Rattle.std.specs.Option.{option_map}
use Rattle.cache_items.specs.Node.{Node}
use Rattle.cache_items.specs.declared.item.Item.{Item}
use Rattle.follower_cache.specs.Seen.{FollowerState}
use Rattle.node_name.specs.declared.NodeName.{NodeName}
use Rattle.node_name.specs.declared.NodeName.TheVariants.{Leader, Follower}
use Rattle.tao_base.specs.declared.id.Key.{Key}
use Rattle.core_model.specs.Fleet.{Fleet, IsNodeOfName}
use Rattle.core_model.specs.declared.named.Named.{Named}
use Rattle.node_stages.specs.Caches.{follower_node, leader_node}
use Rattle.core_nodes.specs.Shown.{IsCacheNode, IsFollowersNode, IsHeldAt, IsMarkAt, IsReadOf, item_of, mark_of}

leaders_node : (f : Fleet) (name : NodeName) (found : Option Node) → IsNodeOfName name f.leaders found
    → IsNodeOfName name f.leaders (option_map leader_node found)
leaders_node f name None is = is
leaders_node f name (Some node) is = is

shown_leader : (f : Fleet) (name : NodeName) (region index : ℕ) (nodes : List (Named Node)) (found : Option Node) → name ≡ Leader region index
    → nodes ≡ f.leaders → IsNodeOfName name nodes found → IsCacheNode name f (option_map leader_node found)
shown_leader f name region index nodes found is own node =
    let P : NodeName → Type 0 = λ n. IsNodeOfName n f.leaders found → IsCacheNode n f (option_map leader_node found) in
    subst P (sym is) (leaders_node f (Leader region index) found) (subst (λ xs. IsNodeOfName name xs found) own node)

followers_node : (f : Fleet) (name : NodeName) (found : Option FollowerState) → IsNodeOfName name f.followers found
    → IsFollowersNode name f (option_map follower_node found)
followers_node f name None is = is
followers_node f name (Some g) is = (g, is, refl)

shown_follower : (f : Fleet) (name : NodeName) (region tier index : ℕ) (nodes : List (Named FollowerState)) (found : Option FollowerState)
    → name ≡ Follower region tier index → nodes ≡ f.followers → IsNodeOfName name nodes found
    → IsCacheNode name f (option_map follower_node found)
shown_follower f name region tier index nodes found is own node =
    let P : NodeName → Type 0 = λ n. IsNodeOfName n f.followers found → IsCacheNode n f (option_map follower_node found) in
    subst P (sym is) (followers_node f (Follower region tier index) found) (subst (λ xs. IsNodeOfName name xs found) own node)

-- what is read of the node of a name is what is told of it
pub leader_held : (f : Fleet) (name : NodeName) (region index : ℕ) (key : Key) (nodes : List (Named Node)) (found : Option Item) → name ≡ Leader region index
    → nodes ≡ f.leaders → IsReadOf leader_node (item_of key) name nodes found → IsHeldAt f name key found
leader_held f name region index key nodes found is own read = record {
  node = option_map leader_node read.cache;
  is = shown_leader f name region index nodes read.cache is own read.is;
  found_is = read.found_is;
}

pub follower_held : (f : Fleet) (name : NodeName) (region tier index : ℕ) (key : Key) (nodes : List (Named FollowerState)) (found : Option Item)
    → name ≡ Follower region tier index → nodes ≡ f.followers → IsReadOf follower_node (item_of key) name nodes found → IsHeldAt f name key found
follower_held f name region tier index key nodes found is own read = record {
  node = option_map follower_node read.cache;
  is = shown_follower f name region tier index nodes read.cache is own read.is;
  found_is = read.found_is;
}

pub leader_mark : (f : Fleet) (name : NodeName) (region index shard : ℕ) (nodes : List (Named Node)) (mark : Option ℕ) → name ≡ Leader region index
    → nodes ≡ f.leaders → IsReadOf leader_node (mark_of shard) name nodes mark → IsMarkAt f name shard mark
leader_mark f name region index shard nodes mark is own read = record {
  node = option_map leader_node read.cache;
  is = shown_leader f name region index nodes read.cache is own read.is;
  mark_is = read.found_is;
}

pub follower_mark : (f : Fleet) (name : NodeName) (region tier index shard : ℕ) (nodes : List (Named FollowerState)) (mark : Option ℕ)
    → name ≡ Follower region tier index → nodes ≡ f.followers → IsReadOf follower_node (mark_of shard) name nodes mark → IsMarkAt f name shard mark
follower_mark f name region tier index shard nodes mark is own read = record {
  node = option_map follower_node read.cache;
  is = shown_follower f name region tier index nodes read.cache is own read.is;
  mark_is = read.found_is;
}
