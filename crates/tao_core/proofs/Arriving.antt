-- What the words of messages, of items and of refills leave of marks and messages: none to which its region's store hasn't come.
use Rattle.std.proofs.Common.{◌≡◌, ℕ, Bool, Option, Some, None, ap, subst, sym}
use Rattle.core_mail.proofs.Arrivals.{arrived_stay}
use Rattle.core_mail.specs.Inboxes.{HaveArrived}
use Rattle.cache_items.specs.Node.{Node}
use Rattle.core_model.proofs.NamedNodes.{all_set}
use Rattle.core_model.proofs.Reaching.{nodes_reach}
use Rattle.core_model.specs.Consistent.{HasReached, HaveReached}
use Rattle.core_model.specs.Emptied.{BeginsAnew, EmptiesCache, FollowerBeginsAnew, at_marks}
use Rattle.core_model.specs.Evictions.{ChangesCache, Evicts}
use Rattle.core_model.specs.Fleet.{ChangesNode, EachIs, Fleet, region_of}
use Rattle.core_model.specs.Messages.{Delivers, DeliversAt, DeliversThere, IsOfStore, TakesRefill}
use Rattle.core_model.specs.Pens.{Pens}
use Rattle.core_steps.proofs.ReachLemmas.{follower_reaches}
use Rattle.follower_cache.specs.Seen.{FollowerState}
use Rattle.follower_cache.specs.declared.queue.Refill.{Refill}
use Rattle.maint_msg.specs.Maints.{SeenMaint}
use Rattle.node_name.specs.declared.NodeName.{NodeName}
use Rattle.node_name.specs.declared.NodeName.TheVariants.{Store as StoreName_, Leader, Follower}
use Rattle.replies.specs.declared.nodes.CacheReply.TheVariants.{Delivered, Evicted, Lost}
use Rattle.replies.specs.declared.nodes.NodeReply.TheVariants.{Cache}
use Rattle.replies.specs.declared.refusals.NodeRefused.TheVariants.{NoMessage}
use Rattle.replies.specs.declared.refusals.Refusal.TheVariants.{Memory, Node as OfNode}
use Rattle.replies.specs.declared.reply.Reply.{Reply}
use Rattle.replies.specs.declared.reply.Reply.TheVariants.{Node as AtNode, Refused}
use Rattle.tao_base.specs.EdgeTypes.{EdgeTypes}
use Rattle.tao_base.specs.declared.id.Key.{Key}
use Rattle.tao_keeper.specs.Table.{Tables}
use Rattle.tao_schema.specs.Schema.{types_of}
use Rattle.words.specs.declared.DeliveryWord.{DeliveryWord}
use Rattle.words.specs.declared.DeliveryWord.TheVariants as word
use Rattle.tao_core.specs.Core.{CoreState, Moment}
use Rattle.tao_core.specs.Deliveries.{AnswersDeliver, AnswersLoss, AnswersSecond, IsProcessed}
use Rattle.tao_core.specs.CacheReplies.{AnswersEvict}

-- the stores have come to all that is marked and to all that waits
pub record HaveCome (tables : Tables) (core : CoreState) : Type 0 where
  pub reached : HaveReached tables core.fleet
  pub arrived : HaveArrived tables core.mail

-- one of the leaders changes, and marks nothing that its store hasn't
leader_reaches : (tables : Tables) (name : NodeName) (old new : Fleet) (By : Node → Node → Type 0) → ChangesNode name By old.leaders new.leaders
    → new ≡ record old { leaders = new.leaders }
    → ((from to : Node) → By from to → HasReached tables (region_of name) from → HasReached tables (region_of name) to)
    → HaveReached tables old → HaveReached tables new
leader_reaches tables name old new By change rest on reached = subst (HaveReached tables) (sym rest) (record {
  leaders = subst (EachIs (λ n node. HasReached tables (region_of n) node)) (sym change.is)
      (all_set (λ n node. HasReached tables (region_of n) node) old.leaders change.place name change.to reached.leaders
      (on change.from change.to change.by (reached.leaders change.place name change.from change.stands)));
  followers = reached.followers;
})

-- ---- messages

deliver_reaches : (tables : Tables) (types : EdgeTypes) (m : SeenMaint) (dropped : ℕ) (node : NodeName) (old new : Fleet)
    → DeliversAt types m dropped node old new → IsOfStore tables node m → HaveReached tables old → HaveReached tables new
deliver_reaches tables types m dropped (StoreName_ store) old new does here = absurd does
deliver_reaches tables types m dropped (Leader region index) old new does here =
    leader_reaches tables (Leader region index) old new (Delivers m dropped) does.0 does.1
    (λ from to by. (nodes_reach tables region).delivers m dropped from to by here)
deliver_reaches tables types m dropped (Follower region tier index) old new does here =
    follower_reaches tables (Follower region tier index) old new does.1 (DeliversThere types m dropped) does.0
    (λ from to by. (nodes_reach tables region).delivers m dropped from.node to.node by.node here)

processed_reaches : (tables : Tables) (asked : DeliveryWord) (node : NodeName) (m : SeenMaint) (old new : CoreState) (reply : Reply)
    → IsProcessed asked node m old reply new → IsOfStore tables node m → HaveReached tables old.fleet → HaveReached tables new.fleet
processed_reaches tables asked node m old new (AtNode (Cache (Delivered told))) does =
    deliver_reaches tables (types_of old.settings.schema) m told.dropped node old.fleet new.fleet does.1.delivers
processed_reaches tables asked node m old new reply does = absurd does

pub delivered_come : (tables : Tables) (node : NodeName) (place : ℕ) (old : CoreState) (reply : Reply) (new : CoreState)
    → AnswersDeliver node place old reply new → HaveCome tables old → HaveCome tables new
delivered_come tables node place old (AtNode reply) new does come = record {
  reached = processed_reaches tables word.Deliver node does.0 old new (AtNode reply) does.2
      ((arrived_stay tables).taken node place (Some does.0) old.mail new.mail does.1 come.arrived) come.reached;
  arrived = (arrived_stay tables).takes node place (Some does.0) old.mail new.mail does.1 come.arrived;
}
delivered_come tables node place old (Refused (OfNode (NoMessage told))) new none come = subst (HaveCome tables) (sym none.2) come
delivered_come tables node place old reply new does come = absurd does

pub repeated_come : (tables : Tables) (node : NodeName) (place : ℕ) (old : CoreState) (reply : Reply) (new : CoreState)
    → AnswersSecond node place old reply new → HaveCome tables old → HaveCome tables new
repeated_come tables node place old (AtNode reply) new does come = record {
  reached = processed_reaches tables word.Again node does.0 old new (AtNode reply) does.3
      ((arrived_stay tables).copied node place (Some does.0) old.mail does.1 come.arrived) come.reached;
  arrived = subst (HaveArrived tables) (sym does.2) come.arrived;
}
repeated_come tables node place old (Refused (OfNode (NoMessage told))) new none come = subst (HaveCome tables) (sym none.2) come
repeated_come tables node place old (Refused (Memory position)) new none come = subst (HaveCome tables) (sym none.1) come
repeated_come tables node place old reply new does come = absurd does

pub lost_come : (tables : Tables) (node : NodeName) (place : ℕ) (old : CoreState) (reply : Reply) (new : CoreState) → AnswersLoss node place old reply new
    → HaveCome tables old → HaveCome tables new
lost_come tables node place old (AtNode (Cache (Lost told))) new does come = record {
  reached = subst (HaveReached tables) (sym does.0) come.reached;
  arrived = (arrived_stay tables).takes node place (Some does.1) old.mail new.mail does.2 come.arrived;
}
lost_come tables node place old (Refused (OfNode (NoMessage told))) new none come = subst (HaveCome tables) (sym none.2) come
lost_come tables node place old reply new does come = absurd does

-- ---- items

evicts_reach : (tables : Tables) (node : NodeName) (key : Option Key) (held : Bool) (old new : Fleet) → ChangesCache node (Evicts key held) old new
    → HaveReached tables old → HaveReached tables new
evicts_reach tables (StoreName_ store) key held old new does = absurd does
evicts_reach tables (Leader region index) key held old new does =
    leader_reaches tables (Leader region index) old new (Evicts key held) does.0 does.1 ((nodes_reach tables region).evicts key held)
evicts_reach tables (Follower region tier index) key held old new does =
    follower_reaches tables (Follower region tier index) old new does.1 _ does.0
    (λ from to by. (nodes_reach tables region).evicts key held from.node to.node by.0)

pub evicted_reach : (tables : Tables) (node : NodeName) (key : Option Key) (old new : Moment) (reply : Reply) → AnswersEvict node key old reply new
    → HaveReached tables old.core.fleet → HaveReached tables new.core.fleet
evicted_reach tables node key old new (AtNode (Cache (Evicted held))) does = evicts_reach tables node key held old.core.fleet new.core.fleet does
evicted_reach tables node key old new reply does = absurd does

-- ---- refills

takes_reach : (tables : Tables) (region : ℕ) (refill : Option Refill) (from to : FollowerState) → TakesRefill refill from to
    → HasReached tables region from.node → HasReached tables region to.node
takes_reach tables region None from to takes = subst (λ (f : FollowerState). HasReached tables region f.node) (sym takes.1)
takes_reach tables region (Some refill) from to takes =
    subst (HasReached tables region) (sym (ap (λ (f : FollowerState). f.node) takes.1))

pub refill_reaches : (tables : Tables) (node : NodeName) (refill : Option Refill) (old new : Fleet)
    → ChangesNode node (TakesRefill refill) old.followers new.followers → new ≡ record old { followers = new.followers } → HaveReached tables old
    → HaveReached tables new
refill_reaches tables node refill old new change rest =
    follower_reaches tables node old new rest (TakesRefill refill) change (takes_reach tables (region_of node) refill)

-- ---- nodes that go down

pub empties_reach : (tables : Tables) (node : NodeName) (pens : Pens) (old new : Fleet) → EmptiesCache node pens at_marks old new → HaveReached tables old
    → HaveReached tables new
empties_reach tables (StoreName_ store) pens old new empties = absurd empties
empties_reach tables (Leader region index) pens old new empties =
    leader_reaches tables (Leader region index) old new (BeginsAnew pens at_marks) empties.0 empties.1
    ((nodes_reach tables region).begins_at_marks pens)
empties_reach tables (Follower region tier index) pens old new empties =
    follower_reaches tables (Follower region tier index) old new empties.1 (FollowerBeginsAnew pens at_marks) empties.0
    (λ from to by. (nodes_reach tables region).begins_at_marks pens from.node to.node by.node)
