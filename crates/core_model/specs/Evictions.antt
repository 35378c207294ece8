-- What it does to a cache node that an item is dropped.
use Rattle.std.specs.Prelude.{◌≡◌, Bool, Contains, Option, Some, None, is_some}
use Rattle.lru.specs.LruCache.{last_entry}
use Rattle.cache_items.specs.Node.{Node, item_at, without, without_last}
use Rattle.node_name.specs.declared.NodeName.{NodeName}
use Rattle.node_name.specs.declared.NodeName.TheVariants.{Store as StoreName_, Leader, Follower}
use Rattle.tao_base.specs.declared.id.Key.{Key}
use Rattle.topology.specs.Config.{Settings}
use Rattle.core_model.specs.Fleet.{ChangesNode, Fleet, follower_names, leader_names}

-- the node is a leader or a follower of the configuration
abbrev pub IsCacheOf : Settings → NodeName → Type 0
IsCacheOf s (StoreName_ store) = ⊥
IsCacheOf s (Leader region index) = Contains (leader_names s) (Leader region index)
IsCacheOf s (Follower region tier index) = Contains (follower_names s) (Follower region tier index)

-- the leader or follower of that name changes so, and nothing else of the core's nodes
abbrev pub ChangesCache : NodeName → (Node → Node → Type 0) → Fleet → Fleet → Type 0
ChangesCache (StoreName_ store) By old new = ⊥
ChangesCache (Leader region index) By old new =
    ChangesNode (Leader region index) By old.leaders new.leaders × (new ≡ record old { leaders = new.leaders })
ChangesCache (Follower region tier index) By old new =
    ChangesNode (Follower region tier index) (λ from to. By from.node to.node × (to.refills ≡ from.refills)) old.followers new.followers
    × (new ≡ record old { followers = new.followers })

-- the item at the key is dropped, or without a key the one that was used least recently; whether there was one
abbrev pub Evicts : Option Key → Bool → Node → Node → Type 0
Evicts (Some key) held old new = (held ≡ is_some (item_at old.items key)) × (new ≡ record old { items = without key old.items })
Evicts None held old new = (held ≡ is_some (last_entry old.items)) × (new ≡ record old { items = without_last old.items })
