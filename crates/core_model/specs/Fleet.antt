-- The nodes of a core, by their names.
use Rattle.std.specs.Prelude.{ℕ, ◌≡◌, ◌<◌, ◌%◌, ◌+◌, ◌==◌, Bool, Contains, IsSomeAnd, List, [], ◌∷◌, ◌++◌, Option, Some, None, filter, map}
use Rattle.std.specs.Prelude.{slice_get, slice_set, unwrap_or}
use Rattle.std.specs.List.{range_with_len}
use Rattle.std.specs.Option.{option_map}
use Rattle.cache_items.specs.Node.{Node}
use Rattle.follower_cache.specs.Seen.{FollowerState}
use Rattle.node_name.specs.declared.NodeName.{NodeName}
use Rattle.node_name.specs.declared.NodeName.TheVariants.{Store as StoreName_, Leader, Follower}
use Rattle.leader_tier.specs.shard_tables.StoreView.{Store}
use Rattle.topology.specs.Config.{Settings}
use Rattle.topology.specs.Counts.{NodeCounts, counts_of, follower_count, leader_count}
use Rattle.tao_base.specs.declared.id.Key.{Key}
use Rattle.core_model.specs.Asks.{IsAskOn}
use Rattle.core_model.specs.declared.named.Named.{Named}

-- the leaders and the followers in the order of their names, and the stores of all regions, region by region and shard by shard
pub record Fleet : Type 0 where
  pub leaders : List (Named Node)
  pub followers : List (Named FollowerState)
  pub stores : List Store

-- a node under its name
abbrev pub named : {N : Type 0} → NodeName → N → Named N
named name node = record { name = name; node = node }

-- the names of the nodes, in the order in which these stand
abbrev pub node_names : {N : Type 0} → List (Named N) → List NodeName
node_names nodes = map (λ n. n.name) nodes

-- one of the nodes has the name
abbrev pub HasNode : {N : Type 0} → NodeName → List (Named N) → Type 0
HasNode name nodes = Contains (node_names nodes) name

-- the node at the place has the name
abbrev pub IsNodeAt : {N : Type 0} → NodeName → List (Named N) → ℕ → Type 0
IsNodeAt name nodes place = IsSomeAnd (slice_get nodes place) (λ n. n.name ≡ name)

-- the node at the place has the name, and none before it does
pub record IsFirstAt {N : Type 0} (name : NodeName) (nodes : List (Named N)) (place : ℕ) : Type 0 where
  pub here : IsNodeAt name nodes place
  pub before : (other : ℕ) → other < place → IsNodeAt name nodes other → ⊥

-- the first node of that name, where there is one
abbrev pub IsNodeOfName : {N : Type 0} → NodeName → List (Named N) → Option N → Type 0
IsNodeOfName name nodes None = HasNode name nodes → ⊥
IsNodeOfName name nodes (Some node) = (place : ℕ) × IsFirstAt name nodes place × (slice_get nodes place ≡ Some (named name node))

-- the node of that name changes so, and no other
pub record ChangesNode {N : Type 0} (name : NodeName) (By : N → N → Type 0) (old new : List (Named N)) : Type 0 where
  pub place : ℕ
  pub first : IsFirstAt name old place
  pub from : N
  pub to : N
  pub stands : slice_get old place ≡ Some (named name from)
  pub by : By from to
  pub is : new ≡ slice_set old place (named name to)

-- each node is such, by its name
abbrev pub EachIs : {N : Type 0} → (NodeName → N → Type 0) → List (Named N) → Type 0
EachIs {N} Is nodes = (place : ℕ) (name : NodeName) (node : N) → slice_get nodes place ≡ Some (named name node) → Is name node

-- each node stands where one of its name stood, and became what it is as is said
abbrev pub EachNode : {N : Type 0} → (NodeName → N → N → Type 0) → List (Named N) → List (Named N) → Type 0
EachNode {N} By old new = (place : ℕ) (name : NodeName) (to : N) → slice_get new place ≡ Some (named name to)
    → (from : N) × (slice_get old place ≡ Some (named name from)) × By name from to

-- the follower of that name has an ask of this number on the key, or had it
abbrev pub HasAsk : NodeName → ℕ → Key → List (Named FollowerState) → Type 0
HasAsk name number key followers = (place : ℕ) (f : FollowerState) → IsFirstAt name followers place → slice_get followers place ≡ Some (named name f)
    → IsAskOn f.node.asks number key

-- the region of a node
abbrev pub region_of : NodeName → ℕ
region_of (StoreName_ store) = store.region
region_of (Leader region index) = region
region_of (Follower region tier index) = region

-- ---- the names of a configuration

-- for each region of the configuration, how many leaders it has, and how many followers each of its tiers has
abbrev pub regions_of : Settings → List NodeCounts
regions_of s = map counts_of s.regions

-- how many followers each tier of a region has
abbrev pub tiers_of : Settings → ℕ → List ℕ
tiers_of s region = unwrap_or (option_map (λ r. r.followers) (slice_get (regions_of s) region)) []

-- the leaders of the regions, the first of which stands at a place
abbrev pub leaders_from : ℕ → List NodeCounts → List NodeName
leaders_from region [] = []
leaders_from region (r ∷ rs) = map (Leader region) (range_with_len 0 r.leaders) ++ leaders_from (region + 1) rs

-- the followers of a region's tiers, the first of which stands at a place and has so many
abbrev pub tiers_from : ℕ → ℕ → List ℕ → List NodeName
tiers_from region tier [] = []
tiers_from region tier (count ∷ counts) = map (Follower region tier) (range_with_len 0 count) ++ tiers_from region (tier + 1) counts

-- the followers of the regions, the first of which stands at a place
abbrev pub followers_from : ℕ → List NodeCounts → List NodeName
followers_from region [] = []
followers_from region (r ∷ rs) = tiers_from region 0 r.followers ++ followers_from (region + 1) rs

-- the leaders of a configuration, region by region
abbrev pub leader_names : Settings → List NodeName
leader_names s = leaders_from 0 (regions_of s)

-- the followers of a configuration, region by region and tier by tier
abbrev pub follower_names : Settings → List NodeName
follower_names s = followers_from 0 (regions_of s)

-- ---- who serves a shard

-- the nodes of a tier, and the leaders of a region, take turns: the node serves the shard
abbrev pub serves_in_turn : List NodeCounts → NodeName → ℕ → Bool
serves_in_turn regions (StoreName_ store) shard = store.shard == shard
serves_in_turn regions (Leader region index) shard = (shard % leader_count regions region) == index
serves_in_turn regions (Follower region tier index) shard = (shard % follower_count regions region tier) == index

-- the shards that a node serves, in order
abbrev pub served_by : Settings → NodeName → List ℕ
served_by s name = filter (serves_in_turn (regions_of s) name) (range_with_len 0 s.shards)

-- whether a node serves a shard, by the configuration as it is now
abbrev pub serves : Settings → NodeName → ℕ → Bool
serves s name shard = serves_in_turn (regions_of s) name shard
