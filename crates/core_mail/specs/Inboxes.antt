-- The messages that wait for the nodes of a core.
use Rattle.std.specs.Prelude.{ℕ, ◌≡◌, List, [], ◌∷◌, ◌++◌, Option, Some, map, slice_get}
use Rattle.std.specs.List.{AllByRecursion, remove}
use Rattle.maint_msg.specs.Inbox.{IsSent}
use Rattle.maint_msg.specs.KeyVersions.{keys_of}
use Rattle.maint_msg.specs.Maints.{SeenMaint, seen_maint}
use Rattle.node_name.specs.declared.NodeName.{NodeName}
use Rattle.replies.specs.declared.lists.Message.{Message}
use Rattle.shard_log.specs.View.{View}
use Rattle.tao_base.specs.declared.entry.Entry.{Entry}
use Rattle.tao_keeper.specs.Table.{Tables}
use Rattle.topology.specs.Config.{Settings}
use Rattle.core_model.specs.Fleet.{ChangesNode, EachIs, IsNodeOfName, follower_names, leader_names, named, node_names}
use Rattle.core_model.specs.Messages.{IsMessageFor, IsOfStore}
use Rattle.core_model.specs.Pens.{Pens}
use Rattle.core_model.specs.declared.named.Named.{Named}

-- the messages that wait for each leader and follower, in the order in which they were sent
abbrev pub Inboxes : Type 0
Inboxes = List (Named (List SeenMaint))

-- the leaders and followers of a configuration
abbrev pub cache_names : Settings → List NodeName
cache_names s = leader_names s ++ follower_names s

-- each leader and follower has an inbox, and each message there is one for it
pub record AreInboxesOf (s : Settings) (pens : Pens) (inboxes : Inboxes) : Type 0 where
  pub names : node_names inboxes ≡ cache_names s
  pub messages : (place : ℕ) (name : NodeName) (waiting : List SeenMaint) → slice_get inboxes place ≡ Some (named name waiting)
      → AllByRecursion (IsMessageFor s pens name) waiting

-- the store of each node's region has come to the positions of the messages that wait for the node
abbrev pub HaveArrived : Tables → Inboxes → Type 0
HaveArrived tables inboxes = EachIs (λ name waiting. AllByRecursion (IsOfStore tables name) waiting) inboxes

-- no message waits
abbrev pub AreEmpty : Inboxes → Type 0
AreEmpty inboxes = AllByRecursion (λ inbox. inbox.node ≡ []) inboxes

-- the inbox of a node that no message waits for
abbrev pub no_messages : NodeName → Named (List SeenMaint)
no_messages name = named name []

-- the inbox of a node of that name once all its messages are taken out
abbrev pub cleared : Named (List SeenMaint) → Named (List SeenMaint)
cleared inbox = no_messages inbox.name

-- ---- messages that are sent

-- the message of the entry of a shard's log, by what the note has seen of it
abbrev pub entry_message : ℕ → Entry → View → SeenMaint
entry_message shard entry note = seen_maint shard entry.position (keys_of entry) note

-- one after another the nodes are sent the message
abbrev pub Sends : List NodeName → SeenMaint → Inboxes → Inboxes → Type 0
Sends [] message old new = new ≡ old
Sends (name ∷ names) message old new = (between : Inboxes) × ChangesNode name (IsSent message) old between × Sends names message between new

-- ---- messages that wait

-- the message at a place is taken out of an inbox, where there is one; those behind it move up
pub record TakesOut (place : ℕ) (message : Option SeenMaint) (old new : List SeenMaint) : Type 0 where
  pub message_is : message ≡ slice_get old place
  pub rest : new ≡ remove old place

-- all messages of an inbox are taken out
abbrev pub LosesAll : List SeenMaint → List SeenMaint → Type 0
LosesAll old new = new ≡ []

-- the message waits for the node at the place, or none does
pub record WaitsAt (name : NodeName) (place : ℕ) (message : Option SeenMaint) (inboxes : Inboxes) : Type 0 where
  pub waiting : List SeenMaint
  pub inbox : IsNodeOfName name inboxes (Some waiting)
  pub message_is : message ≡ slice_get waiting place

-- a message as it is shown
abbrev pub shown_message : SeenMaint → Message
shown_message m = record { shard = m.shard; position = m.position }

-- the messages that wait for the node are shown, in order
pub record ShowsInbox (name : NodeName) (shown : List Message) (inboxes : Inboxes) : Type 0 where
  pub waiting : List SeenMaint
  pub inbox : IsNodeOfName name inboxes (Some waiting)
  pub shown_is : shown ≡ map shown_message waiting
