-- The leaders and followers that a cluster begins with may lie behind locks.
use Rattle.std.proofs.Common.{◌≡◌, ℕ, zero, suc, List, [], ◌∷◌, length, refl, ap, sym, subst, ◌∙◌}
use Rattle.std.proofs.lemmas.List.{length-map}
use Rattle.std.specs.List.{AllByRecursion}
use Rattle.cache_items.specs.Node.{Node}
use Rattle.core_model.specs.Consistent.{AreRight, AreSeen, IsFleetOf, IsNodeOf}
use Rattle.core_model.specs.Fleet.{EachIs, Fleet}
use Rattle.core_model.specs.Pens.{Pens, pens_of}
use Rattle.core_model.specs.Stores.{store_count}
use Rattle.core_model.specs.declared.named.Named.{Named}
use Rattle.locked_nodes.specs.Room.{AreMany}
use Rattle.log_names.specs.Names.{IsOfLog, LogNames}
use Rattle.node_name.specs.declared.NodeName.{NodeName}
use Rattle.served_shards.specs.Served.{ServedShard}
use Rattle.shard_tables.specs.StoreView.{Store}
use Rattle.locked_nodes.specs.shared_nodes.Nodes.{IsSharedNode}
use Rattle.shared_stores.specs.Making.{Making}
use Rattle.topology.specs.Config.{Settings}
use Rattle.cluster_opening.specs.Opening.{MayBeShared, logs_of, making_of}

-- what begins a pen's log is of that log
right_named : (pens : Pens) (served : List ServedShard) → AreSeen pens served → AreRight (IsOfLog (λ shard. (pens shard).log)) served
right_named pens [] seen = tt
right_named pens (t ∷ ts) seen = (sym seen.0.log_is, right_named pens ts seen.1)

node_shared : (s : Settings) (stores : List Store) (cuts : List ℕ) (name : NodeName) (node : Node) → IsNodeOf s (pens_of stores) name node
    → IsSharedNode (making_of s stores cuts) (logs_of stores) name node
node_shared s stores cuts name node is =
    record { shards = is.shards; seen = right_named (pens_of stores) node.served is.seen; truth = is.truth; within = is.within }

may_be_shared : (s : Settings) (f : Fleet) (cuts : List ℕ) → IsFleetOf s f → MayBeShared (making_of s f.stores cuts) (logs_of f.stores) f
may_be_shared s f cuts is = record {
  leaders = λ place name node at. node_shared s f.stores cuts name node (is.leaders place name node at);
  followers = λ place name follower at. node_shared s f.stores cuts name follower.node (is.followers place name follower at).node;
}

-- each of them, from the first on
pub each_in : {N : Type 0} (Is : NodeName → N → Type 0) (nodes : List (Named N)) → EachIs Is nodes → AllByRecursion (λ n. Is n.name n.node) nodes
each_in Is [] each = tt
each_in Is (n ∷ ns) each = (each zero n.name n.node refl, each_in Is ns (λ place name node at. each (suc place) name node at))

pub nodes_shared : (s : Settings) (f : Fleet) (cuts : List ℕ) (m : Making) (log : LogNames) → m ≡ making_of s f.stores cuts → log ≡ logs_of f.stores
    → IsFleetOf s f → MayBeShared m log f
nodes_shared s f cuts m log m_is log_is is =
    subst (λ k. MayBeShared k log f) (sym m_is) (subst (λ l. MayBeShared (making_of s f.stores cuts) l f) (sym log_is) (may_be_shared s f cuts is))

-- there are as many of them as of the configuration's names, and as many stores as it has
pub nodes_many : (s : Settings) (f : Fleet) → IsFleetOf s f → length f.stores ≡ store_count s
    → AreMany s (length f.leaders) (length f.followers) (length f.stores)
nodes_many s f is stores = record {
  leaders_are = sym (length-map f.leaders (λ n. n.name)) ∙ ap length is.leader_names;
  followers_are = sym (length-map f.followers (λ n. n.name)) ∙ ap length is.follower_names;
  stores_are = stores;
}
