-- What is left where an item is dropped.
use Rattle.std.proofs.Common.{◌≡◌, ℕ, Bool, List, Option, Some, None, ap, sym, subst}
use Rattle.std.specs.List.{IsDistinct}
use Rattle.std.specs.Map.{keys_of as keys_held}
use Rattle.ask_table.specs.Asks.{Asks}
use Rattle.cache_items.specs.Node.{Node}
use Rattle.cache_node.specs.True.{IsTrueNode}
use Rattle.follower_cache.specs.Seen.{FollowerState}
use Rattle.follower_cache.specs.declared.queue.Refill.{Refill}
use Rattle.node_name.specs.declared.NodeName.{NodeName}
use Rattle.node_name.specs.declared.NodeName.TheVariants.{Follower, Leader}
use Rattle.tao_base.specs.Keys.{same_key}
use Rattle.tao_base.specs.declared.id.Key.{Key}
use Rattle.topology.specs.Config.{Settings}
use Rattle.core_model.proofs.MarkingOn.{nodes_mark_on}
use Rattle.core_model.proofs.Staying.{nodes_stay}
use Rattle.core_model.specs.Asks.{AsksGoOn, IsAskOn}
use Rattle.core_model.specs.Consistent.{IsFleetOf, IsNodeOf}
use Rattle.core_model.specs.Evictions.{ChangesCache, Evicts}
use Rattle.core_model.specs.Fleet.{ChangesNode, Fleet}
use Rattle.core_model.specs.Messages.{AreRefillsFor}
use Rattle.core_model.specs.Pens.{Pens, pens_of}
use Rattle.core_model.specs.declared.named.Named.{Named}
use Rattle.node_stages.specs.Caches.{EvictsAs, follower_node, follower_refills, leader_node, leader_refills}
use Rattle.node_stages.specs.Stages.{CacheDoes}
use Rattle.core_nodes.proofs.FleetLemmas.{Kind, Leaves, leaves, the_followers, the_leaders}
use Rattle.core_nodes.proofs.ViewLemmas.{Lends}
use Rattle.core_model.proofs.NamedNodes.{changes_so}

pub evicted_stays : (s : Settings) (pens : Pens) (name : NodeName) (key : Option Key) (held : Bool) (old new : Node) → Evicts key held old new
    → IsDistinct same_key (keys_held old.items)
    → IsTrueNode new → IsNodeOf s pens name old → IsNodeOf s pens name new
evicted_stays s pens name (Some key) held old new does apart truth is = (nodes_stay s pens name).evicts key old new does.1 apart truth is
evicted_stays s pens name None held old new does apart truth is = (nodes_stay s pens name).evicts_last old new does.1 truth is

-- asks that stay go on
pub asks_same : (old new : Asks) → new ≡ old → AsksGoOn old new
asks_same old new same number key is = subst (λ t. IsAskOn t number key) (sym same) is

evicted_asks : (key : Option Key) (held : Bool) (old new : Node) → Evicts key held old new → AsksGoOn old.asks new.asks
evicted_asks (Some key) held old new does = asks_same old.asks new.asks (ap (λ (n : Node). n.asks) does.1)
evicted_asks None held old new does = asks_same old.asks new.asks (ap (λ (n : Node). n.asks) does.1)

-- what is left where it drops an item: that alone has changed
module _ {N : Type 0} {node : N → Node} {refills : N → List Refill} {AsksOn : N → N → Type 0} {of : Fleet → List (Named N)}
    {put : Fleet → List (Named N) → Fleet} (kind : Kind node refills AsksOn of put) where
  pub evicted : (s : Settings) (key : Option Key) (held : Bool) (old new : Fleet) (name : NodeName) (lent left : List (Named N))
      → Lends of put old new lent left → IsFleetOf s old → ChangesNode name (CacheDoes node (EvictsAs node refills key held)) lent left
      → Leaves kind s (EvictsAs node refills key held) name old new
  evicted s key held old new name lent left lends fleet change =
      leaves kind (CacheDoes node (EvictsAs node refills key held)) (EvictsAs node refills key held) s old new name lent left lends fleet change
      (λ from to by. by.does)
      (λ from to by is. record {
        node_is = evicted_stays s (pens_of old.stores) name key held (node from) (node to) by.does.by by.apart by.truth is.node_is;
        refills_are = subst (AreRefillsFor s (pens_of old.stores) name) (sym by.does.rest) is.refills_are;
      })
      (λ from to by. kind.asks from to (evicted_asks key held (node from) (node to) by.does.by))
      (λ from to by. nodes_mark_on.evicts key held (node from) (node to) by.does.by)

-- of the leader of that name, and of the follower
pub leader_evicts : (s : Settings) (key : Option Key) (held : Bool) (old new : Fleet) (name : NodeName) (region index : ℕ) → name ≡ Leader region index
    → Leaves the_leaders s (EvictsAs leader_node leader_refills key held) name old new → ChangesCache name (Evicts key held) old new
leader_evicts s key held old new name region index is =
    let So = EvictsAs leader_node leader_refills key held in
    subst (λ n. Leaves the_leaders s So n old new → ChangesCache n (Evicts key held) old new) (sym is)
    (λ left. (changes_so So (Evicts key held) (Leader region index) old.leaders new.leaders (λ from to by. by.by) left.change, left.rest))

pub follower_evicts : (s : Settings) (key : Option Key) (held : Bool) (old new : Fleet) (name : NodeName) (region tier index : ℕ)
    → name ≡ Follower region tier index → Leaves the_followers s (EvictsAs follower_node follower_refills key held) name old new
    → ChangesCache name (Evicts key held) old new
follower_evicts s key held old new name region tier index is =
    let So = EvictsAs follower_node follower_refills key held in
    let There : FollowerState → FollowerState → Type 0 = λ from to. Evicts key held from.node to.node × (to.refills ≡ from.refills) in
    subst (λ n. Leaves the_followers s So n old new → ChangesCache n (Evicts key held) old new) (sym is)
    (λ left. (
      changes_so So There (Follower region tier index) old.followers new.followers (λ from to by. (by.by, by.rest)) left.change,
      left.rest,
    ))
