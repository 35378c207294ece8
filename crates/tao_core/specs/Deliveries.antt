-- What the replies to the words of messages, of refills and of held items say.
use Rattle.std.specs.Prelude.{ℕ, ◌≡◌, ◌⊎◌, ⊤, Bool, false, true, List, Option, Some, None, if◌then◌else◌}
use Rattle.core_mail.specs.Inboxes.{ShowsInbox, TakesOut, WaitsAt, shown_message}
use Rattle.core_model.specs.Fleet.{ChangesNode, region_of}
use Rattle.core_model.specs.Messages.{DeliversAt, TakesRefill}
use Rattle.core_model.specs.Stores.{master_log}
use Rattle.core_model.specs.declared.named.Named.{Named}
use Rattle.core_nodes.specs.Shown.{IsHeldAt, IsMarkAt}
use Rattle.core_plans.specs.HeldReads.{at_bound}
use Rattle.core_plans.specs.declared.held.HeldPlan.{HeldPlan}
use Rattle.core_plans.specs.declared.held.HeldPlan.TheVariants as of
use Rattle.read_plan.specs.Readings.{new_reading}
use Rattle.core_steps.specs.Replies.{refilled_as}
use Rattle.cache_items.specs.declared.item.Item.{Item}
use Rattle.follower_cache.specs.Seen.{FollowerState}
use Rattle.follower_cache.specs.declared.queue.Refill.{Refill}
use Rattle.graph_model.specs.Told.{WhereTold}
use Rattle.maint_msg.specs.Maints.{SeenMaint}
use Rattle.node_name.specs.declared.NodeName.{NodeName}
use Rattle.node_name.specs.declared.NodeName.TheVariants as name
use Rattle.replies.specs.declared.nodes.CacheReply.TheVariants.{Delivered, Inbox, Lost, Shown}
use Rattle.replies.specs.declared.nodes.DeliveredReply.{DeliveredReply}
use Rattle.replies.specs.declared.nodes.NodeReply.TheVariants.{Cache}
use Rattle.replies.specs.declared.nodes.Shown.{Shown as ShownAs}
use Rattle.replies.specs.declared.nodes.Shown.TheVariants.{Nothing, Held}
use Rattle.replies.specs.declared.nodes.ShownItem.{ShownItem}
use Rattle.replies.specs.declared.nodes.ShownItem.TheVariants as shown
use Rattle.replies.specs.declared.refusals.NodeRefused.TheVariants.{NoMessage, NoRefill}
use Rattle.replies.specs.declared.refusals.Refusal.TheVariants.{Memory, Node as OfNode}
use Rattle.replies.specs.declared.reply.Reply.{Reply}
use Rattle.replies.specs.declared.reply.Reply.TheVariants.{Node, Refused}
use Rattle.sealed_item.specs.Fills.{IsExactContent}
use Rattle.sealed_item.specs.declared.content.Content.{Content}
use Rattle.sealed_item.specs.declared.content.Content.TheVariants as content
use Rattle.tao_base.specs.Keys.{key_shard}
use Rattle.tao_base.specs.declared.id.Key.{Key}
use Rattle.tao_keeper.specs.KeeperState.{KeeperState}
use Rattle.tao_schema.specs.Schema.{types_of}
use Rattle.words.specs.declared.DeliveryWord.{DeliveryWord}
use Rattle.words.specs.declared.DeliveryWord.TheVariants as word
use Rattle.tao_core.specs.HeldCalls.{DoesAtOnce}
use Rattle.topology.specs.Config.{Settings}
use Rattle.topology.specs.States.{is_up}
use Rattle.tao_core.specs.Core.{CoreState, Moment}

-- ---- messages

-- the mark that a reply says of a node for a shard: its low-water mark, and 0 where it is down
pub record IsMarkSaid (core : CoreState) (node : NodeName) (shard mark : ℕ) : Type 0 where
  pub low : ℕ
  pub low_is : IsMarkAt core.fleet node shard (Some low)
  pub mark_is : mark ≡ (if is_up core.states node then low else 0)

-- the mark that is said, where the name is that of a leader or follower; none where it is another
abbrev pub SaysMark : CoreState → NodeName → ℕ → Option ℕ → Type 0
SaysMark core node shard None = IsMarkAt core.fleet node shard None
SaysMark core node shard (Some mark) = IsMarkSaid core node shard mark

-- a message was processed: its node dropped so many items, and the reply has the node's mark for the message's shard after it
pub record ProcessesAt (node : NodeName) (message : SeenMaint) (reply : DeliveredReply) (old new : CoreState) : Type 0 where
  pub delivers : DeliversAt (types_of old.settings.schema) message reply.dropped node old.fleet new.fleet
  pub mark : IsMarkSaid new node message.shard reply.mark
  pub message_is : reply.message ≡ shown_message message

-- the reply that a message was processed, for the word that asked for it
abbrev pub IsProcessed : DeliveryWord → NodeName → SeenMaint → CoreState → Reply → CoreState → Type 0
IsProcessed asked node message old (Node (Cache (Delivered reply))) new = (reply.word ≡ asked) × ProcessesAt node message reply old new
IsProcessed asked node message old reply new = ⊥

-- no message waits at the place, and nothing changed
abbrev pub FindsNone : NodeName → ℕ → ℕ → CoreState → CoreState → Type 0
FindsNone node place said old new = (said ≡ place) × WaitsAt node place None old.mail × (new ≡ old)

-- the message at a place of the node's inbox was taken out and processed
abbrev pub AnswersDeliver : NodeName → ℕ → CoreState → Reply → CoreState → Type 0
AnswersDeliver node place old (Node reply) new = (message : SeenMaint) × ChangesNode node (TakesOut place (Some message)) old.mail new.mail
    × IsProcessed word.Deliver node message old (Node reply) new
AnswersDeliver node place old (Refused (OfNode (NoMessage said))) new = FindsNone node place said old new
AnswersDeliver node place old reply new = ⊥

-- the message at a place of the node's inbox was processed, and still waits where it was
abbrev pub AnswersSecond : NodeName → ℕ → CoreState → Reply → CoreState → Type 0
AnswersSecond node place old (Node reply) new = (message : SeenMaint) × WaitsAt node place (Some message) old.mail × (new.mail ≡ old.mail)
    × IsProcessed word.Again node message old (Node reply) new
AnswersSecond node place old (Refused (OfNode (NoMessage said))) new = FindsNone node place said old new
AnswersSecond node place old (Refused (Memory position)) new = (position ≡ 0) × (new ≡ old)
AnswersSecond node place old reply new = ⊥

-- how it is replied that the message at a place is lost, or that none waits there
abbrev pub lost_as : ℕ → Option SeenMaint → Reply
lost_as place None = Refused (OfNode (NoMessage place))
lost_as place (Some message) = Node (Cache (Lost (shown_message message)))

-- the message at a place of the node's inbox was taken out, and is lost
abbrev pub AnswersLoss : NodeName → ℕ → CoreState → Reply → CoreState → Type 0
AnswersLoss node place old (Node (Cache (Lost said))) new = (new.fleet ≡ old.fleet)
    × (message : SeenMaint) × ChangesNode node (TakesOut place (Some message)) old.mail new.mail × (said ≡ shown_message message)
AnswersLoss node place old (Refused (OfNode (NoMessage said))) new = FindsNone node place said old new
AnswersLoss node place old reply new = ⊥

-- the messages that wait for the node
abbrev pub AnswersInbox : NodeName → CoreState → Reply → Type 0
AnswersInbox node core (Node (Cache (Inbox messages))) = ShowsInbox node messages core.mail
AnswersInbox node core (Refused (Memory position)) = position ≡ 0
AnswersInbox node core reply = ⊥

-- ---- items

-- an item as it is shown: the object, or the first edges of the list and its length
abbrev pub shown_content : Content → ShownItem
shown_content (content.Object found) = shown.Object found
shown_content (content.List prefix) = shown.List prefix.edges prefix.total

-- what is shown of a place: its item with its version, or that none is held
abbrev pub shown_item : Option Item → ShownAs
shown_item None = Nothing
shown_item (Some item) = Held item.version (shown_content item.content)

-- where the tables are told, the item is exact in its shard's log
abbrev pub IsExactNow : Bool → CoreState → KeeperState → Key → Option Item → Type 0
IsExactNow tells core keepers key None = ⊤
IsExactNow tells core keepers key (Some item) =
    WhereTold tells (IsExactContent (master_log core.settings keepers.told (key_shard key)) key item.version item.content)

-- what the node holds at a key, and its mark for the key's shard
pub record IsShown (tells : Bool) (node : NodeName) (key : Key) (mark : ℕ) (item : ShownAs) (now : Moment) : Type 0 where
  pub found : Option Item
  pub held : IsHeldAt now.core.fleet node key found
  pub item_is : item ≡ shown_item found
  pub exact : IsExactNow tells now.core now.keepers key found
  pub mark_is : IsMarkSaid now.core node (key_shard key) mark

-- what the reply to a show says: what the node holds at the key, unless there was no memory
abbrev pub AnswersShow : Bool → NodeName → Key → Moment → Reply → Type 0
AnswersShow tells node key now (Node (Cache (Shown mark item))) = IsShown tells node key mark item now
AnswersShow tells node key now (Refused (Memory position)) = position ≡ 0
AnswersShow tells node key now reply = ⊥

-- ---- refills

-- the tier that a follower is of; 0 of another node
abbrev pub home_tier : NodeName → ℕ
home_tier (name.Follower region tier index) = tier
home_tier (name.Leader region index) = 0
home_tier (name.Store store) = 0

-- the plan of a refill: a read in the region and tier of its follower, at the refill's own floor
abbrev pub refill_plan : Settings → NodeName → Refill → HeldPlan
refill_plan s node refill =
    of.Read (at_bound s (new_reading refill.query (region_of node) (home_tier node) refill.floor false node))

-- the follower is up, its oldest refill was taken out, and its plan did all of its stages
pub record RefillGoes (tells : Bool) (node : NodeName) (old : Moment) (reply : Reply) (new : Moment) : Type 0 where
  pub up : is_up old.core.states node ≡ true
  pub refill : Refill
  pub left : List (Named FollowerState)
  pub takes : ChangesNode node (TakesRefill (Some refill)) old.core.fleet.followers left
  pub read : Reply
  pub does : DoesAtOnce tells (refill_plan old.core.settings node refill)
      (record old { core = record old.core { fleet = record old.core.fleet { followers = left } } }) read new
  pub reply_is : reply ≡ refilled_as read

-- no refill waits, as at a node that is down, and nothing changed
pub record HasNoRefill (node : NodeName) (old : Moment) (reply : Reply) (new : Moment) : Type 0 where
  pub reply_is : reply ≡ Refused (OfNode (NoRefill node))
  pub none : (is_up old.core.states node ≡ false) ⊎ ChangesNode node (TakesRefill None) old.core.fleet.followers new.core.fleet.followers
  pub same : new ≡ old

-- what the reply to a refill says: how the follower's oldest one was read, or that none waits
abbrev pub AnswersRefill : Bool → NodeName → Moment → Reply → Moment → Type 0
AnswersRefill tells node old reply new = RefillGoes tells node old reply new ⊎ HasNoRefill node old reply new
