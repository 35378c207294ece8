-- What contracts see of a hand, and of which nodes it is.
use Rattle.std.specs.Prelude.{ℕ, ⊤, Contains, Option, Some, None}
use Rattle.core_model.specs.Fleet.{follower_names, leader_names}
use Rattle.core_model.specs.Stores.{IsConfiguredStore}
use Rattle.locked_nodes.specs.Nodes.{IsInboxOf, SeenNodes}
use Rattle.node_name.specs.declared.NodeName.{NodeName}
use Rattle.node_name.specs.declared.NodeName.TheVariants.{Store as StoreName_, Leader, Follower}
use Rattle.shared_inbox.specs.Messages.{InboxName, SeenInboxPass}
use Rattle.shared_stores.specs.Making.{Making}
use Rattle.tao_base.specs.declared.id.StoreName.{StoreName}
use Rattle.topology.specs.Config.{Settings}
use Rattle.cluster_pumps.specs.declared.hands.Work.{Work}
use Rattle.cluster_pumps.specs.declared.hands.Work.TheVariants.{Inbox, Stream}

-- a hand: its node, the inbox of which it has a pass, where that is a leader or a follower, and how often it found nothing to take
pub record SeenHand : Type 0 where
  pub node : NodeName
  pub inbox : Option InboxName
  pub empties : ℕ

-- a hand on a leader or a follower, by a pass of an inbox
abbrev pub inbox_hand : NodeName → SeenInboxPass → SeenHand
inbox_hand node pass = record { node = node; inbox = Some pass.inbox; empties = pass.empties }

-- a hand on a store, which found nothing to take so often
abbrev pub store_hand : StoreName → ℕ → SeenHand
store_hand at empties = record { node = StoreName_ at; inbox = None; empties = empties }

-- what contracts see of a hand, by what it takes
abbrev pub shown_hand : {J : Type 0} → Work J → SeenHand
shown_hand (Inbox node pass) = inbox_hand node pass
shown_hand (Stream at empties) = store_hand at empties

-- the node is one of the configuration's
abbrev pub IsNodeIn : Settings → NodeName → Type 0
IsNodeIn s (StoreName_ at) = IsConfiguredStore s at
IsNodeIn s (Leader region index) = Contains (leader_names s) (Leader region index)
IsNodeIn s (Follower region tier index) = Contains (follower_names s) (Follower region tier index)

-- the node is a leader or a follower
abbrev pub IsCache : NodeName → Type 0
IsCache (StoreName_ at) = ⊥
IsCache (Leader region index) = ⊤
IsCache (Follower region tier index) = ⊤

-- the node is one of the configuration's stores
abbrev pub IsStoreIn : Settings → NodeName → Type 0
IsStoreIn s (StoreName_ at) = IsConfiguredStore s at
IsStoreIn s (Leader region index) = ⊥
IsStoreIn s (Follower region tier index) = ⊥

-- the inbox is that of the node, or there is none, and the node is a store
abbrev pub HasInbox : Settings → SeenNodes → NodeName → Option InboxName → Type 0
HasInbox s nodes node (Some inbox) = IsInboxOf nodes node inbox
HasInbox s nodes node None = IsStoreIn s node

-- the hand is of these nodes: it is on one of their stores, or has a pass of the inbox of its leader or follower
pub record IsHandOf (m : Making) (nodes : SeenNodes) (hand : SeenHand) : Type 0 where
  pub inbox : HasInbox m.settings nodes hand.node hand.inbox
