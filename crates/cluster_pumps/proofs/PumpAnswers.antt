-- What a pump answers, by what came of it.
use Rattle.std.proofs.Common.{◌≡◌, Bool, true, false, refl, sym, subst}
use Rattle.std.specs.Prelude.{◌==◌, MatchBool, if◌then◌else◌}
use Rattle.core_model.specs.Stores.{master_of, role_in}
use Rattle.locked_nodes.proofs.Inboxes.{node_once}
use Rattle.locked_nodes.specs.Nodes.{IsInboxOf, SeenNodes}
use Rattle.log_names.specs.Names.{LogNames}
use Rattle.node_name.specs.declared.NodeName.{NodeName}
use Rattle.node_name.specs.declared.NodeName.TheVariants.{Store as StoreName_, Leader, Follower}
use Rattle.shard_tables.specs.declared.store.StoreRole.TheVariants.{Master, Slave}
use Rattle.shared_inbox.specs.Messages.{InboxName}
use Rattle.shared_stores.specs.Making.{Making}
use Rattle.tao_base.specs.declared.id.StoreName.{StoreName}
use Rattle.topology.specs.Config.{Settings}
use Rattle.cluster_pumps.specs.Hands.{IsCache, SeenHand}
use Rattle.cluster_pumps.specs.Pumps.{FindsNothing, IsDelivery, PumpsAs, is_master}
use Rattle.cluster_pumps.specs.declared.pumping.Pumped.{Pumped}
use Rattle.cluster_pumps.specs.declared.pumping.Pumped.TheVariants.{Delivered, Empty, Failed}

-- ---- inboxes

-- a node has one inbox
pub one_inbox : (nodes : SeenNodes) (node : NodeName) (x y : InboxName) → IsInboxOf nodes node x → IsInboxOf nodes node y → x ≡ y
one_inbox nodes (StoreName_ at) x y one two = absurd one
one_inbox nodes (Leader region index) x y one two = node_once (Leader region index) nodes.leaders x y one two
one_inbox nodes (Follower region tier index) x y one two = node_once (Follower region tier index) nodes.followers x y one two

-- a node with an inbox is a leader or a follower
pub cache_has : (nodes : SeenNodes) (node : NodeName) (inbox : InboxName) → IsInboxOf nodes node inbox → IsCache node
cache_has nodes (StoreName_ at) inbox is = absurd is
cache_has nodes (Leader region index) inbox is = tt
cache_has nodes (Follower region tier index) inbox is = tt

-- and no master's store
pub cache_takes : (s : Settings) (node : NodeName) → IsCache node → is_master s node ≡ false
cache_takes s (StoreName_ at) is = absurd is
cache_takes s (Leader region index) is = refl
cache_takes s (Follower region tier index) is = refl

-- ---- answers

-- what was delivered, by a hand that is as it was
pub pumps_delivery : (fails : Type 0) (m : Making) (log : LogNames) (old new : SeenHand) (pumped : Pumped) → IsDelivery m log old.node pumped → new ≡ old
    → PumpsAs fails m log old new pumped
pumps_delivery fails m log old new (Delivered shard position dropped) is same = (is, same)
pumps_delivery fails m log old new Empty is same = absurd is
pumps_delivery fails m log old new (Failed refusal) is same = absurd is

-- where a hand counted that there was nothing to take
pub pumps_empty : (fails : Type 0) (m : Making) (log : LogNames) (old new : SeenHand) → is_master m.settings old.node ≡ false → FindsNothing old new
    → PumpsAs fails m log old new Empty
pumps_empty fails m log old new takes nothing = subst (λ b. MatchBool b (new ≡ old) (FindsNothing old new)) (sym takes) nothing

-- at a master's store
pub pumps_master : (fails : Type 0) (m : Making) (log : LogNames) (hand : SeenHand) → is_master m.settings hand.node ≡ true
    → PumpsAs fails m log hand hand Empty
pumps_master fails m log hand master = subst (λ b. MatchBool b (hand ≡ hand) (FindsNothing hand hand)) (sym master) refl

-- ---- roles

role_of_test : (b : Bool) → (if b then Master else Slave) ≡ Slave → b ≡ false
role_of_test true slave = absurd (cc)
role_of_test false slave = refl

test_of_role : (b : Bool) → (if b then Master else Slave) ≡ Master → b ≡ true
test_of_role true master = refl
test_of_role false master = absurd (cc)

pub slave_takes : (s : Settings) (at : StoreName) → role_in s at ≡ Slave → is_master s (StoreName_ at) ≡ false
slave_takes s at slave = role_of_test (at.region == master_of s at.shard) slave

pub master_has_all : (s : Settings) (at : StoreName) → role_in s at ≡ Master → is_master s (StoreName_ at) ≡ true
master_has_all s at master = test_of_role (at.region == master_of s at.shard) master
