-- What is known of the nodes behind locks.
use Rattle.std.specs.Prelude.{ℕ, ◌≡◌, ◌<◌, List, Some, length, slice_get}
use Rattle.core_model.specs.Fleet.{IsNodeOfName, regions_of}
use Rattle.core_model.specs.declared.named.Named.{Named}
use Rattle.node_name.specs.declared.NodeName.{NodeName}
use Rattle.node_name.specs.declared.NodeName.TheVariants.{Store as StoreName_, Leader, Follower}
use Rattle.shared_inbox.specs.Messages.{InboxName}
use Rattle.shared_nodes.specs.shared_stores.Making.{Making}
use Rattle.topology.specs.Config.{Settings}
use Rattle.topology.specs.Counts.{tier_count}

-- what contracts see of the nodes: their configuration, and which inbox is each leader's and each follower's
pub record SeenNodes : Type 0 where
  pub settings : Settings
  pub leaders : List (Named InboxName)
  pub followers : List (Named InboxName)

-- the nodes of a configuration, with these inboxes
abbrev pub seen_nodes : Settings → List (Named InboxName) → List (Named InboxName) → SeenNodes
seen_nodes settings leaders followers = record { settings = settings; leaders = leaders; followers = followers }

-- the inbox is that of the node
abbrev pub IsInboxOf : SeenNodes → NodeName → InboxName → Type 0
IsInboxOf nodes (StoreName_ at) inbox = ⊥
IsInboxOf nodes (Leader region index) inbox = IsNodeOfName (Leader region index) nodes.leaders (Some inbox)
IsInboxOf nodes (Follower region tier index) inbox = IsNodeOfName (Follower region tier index) nodes.followers (Some inbox)

-- none of the nodes has the name and an inbox
abbrev pub HasNoInbox : SeenNodes → NodeName → Type 0
HasNoInbox nodes name = (inbox : InboxName) → IsInboxOf nodes name inbox → ⊥

-- the cuts are those that the nodes were made with, one a shard, in order
pub record AreCutsOf (m : Making) (cuts : List ℕ) : Type 0 where
  pub long : length cuts ≡ m.settings.shards
  pub each : (shard : ℕ) → shard < m.settings.shards → slice_get cuts shard ≡ Some (m.cut shard)

-- the tier is configured, by its place in the region
abbrev pub HasTier : Settings → ℕ → ℕ → Type 0
HasTier s region tier = tier < tier_count (regions_of s) region
