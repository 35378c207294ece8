-- Where a store's log may be cut, and which nodes lie behind.
use Rattle.std.specs.Prelude.{ℕ, ◌≡◌, ◌≤◌, ◌==◌, ◌&&◌, ◌++◌, Bool, List, filter, length, map, max}
use Rattle.std.specs.List.{range_with_len}
use Rattle.cache_items.specs.Node.{Node}
use Rattle.follower_cache.specs.Seen.{FollowerState}
use Rattle.log_trim.specs.Trimming.{least_of}
use Rattle.node_name.specs.declared.NodeName.{NodeName}
use Rattle.served_shards.specs.Served.{low_at}
use Rattle.tao_base.specs.declared.id.StoreName.{StoreName}
use Rattle.tao_keeper.specs.Table.{Tables}
use Rattle.topology.specs.Config.{Settings}
use Rattle.core_model.specs.Fleet.{Fleet, region_of}
use Rattle.core_model.specs.Stores.{IsConfiguredStore, store_length}
use Rattle.core_model.specs.declared.named.Named.{Named}
use Rattle.core_nodes.specs.Settling.{lies_behind}

-- the least of a position and of the lengths of all stores of the shard
abbrev pub least_mark : Settings → Tables → ℕ → ℕ → ℕ
least_mark s tables shard position = least_of position (map (λ region. store_length tables region shard) (range_with_len 0 (length s.regions)))

-- the cut of a store's log, where it is to come to that position: it never goes back
abbrev pub cut_to : Tables → StoreName → ℕ → ℕ
cut_to tables at position = max (tables at).cut position

-- each store of the shard has come to the position
pub record HaveComeTo (s : Settings) (tables : Tables) (shard position : ℕ) : Type 0 where
  pub come : (at : StoreName) → IsConfiguredStore s at → at.shard ≡ shard → position ≤ length (tables at).log

-- whether the node of that name and low-water mark is one of the store's region, serves its shard, and has not processed the log up to the position
abbrev pub is_behind : Settings → StoreName → ℕ → NodeName → ℕ → Bool
is_behind s at position name low = region_of name == at.region && lies_behind s name at.shard low position

-- the names of these nodes that lie behind, in order
abbrev pub behind_of : {N : Type 0} → (N → Node) → Settings → StoreName → ℕ → List (Named N) → List NodeName
behind_of node s at position nodes =
    map (λ n. n.name) (filter (λ n. is_behind s at position n.name (low_at at.shard (node n.node).served)) nodes)

-- the names of the leaders and followers that lie behind the position in the log of the store, in order
abbrev pub names_behind : Settings → Fleet → StoreName → ℕ → List NodeName
names_behind s f at position =
    behind_of (λ (n : Node). n) s at position f.leaders ++ behind_of (λ (n : FollowerState). n.node) s at position f.followers
