-- What the replies to the words of cache nodes say.
use Rattle.std.specs.Prelude.{◌≡◌, Bool, Option}
use Rattle.core_model.specs.Evictions.{ChangesCache, Evicts}
use Rattle.node_name.specs.declared.NodeName.{NodeName}
use Rattle.replies.specs.declared.nodes.CacheReply.TheVariants.{Evicted}
use Rattle.replies.specs.declared.nodes.NodeReply.TheVariants.{Cache}
use Rattle.replies.specs.declared.reply.Reply.{Reply}
use Rattle.replies.specs.declared.reply.Reply.TheVariants.{Node}
use Rattle.request_check.specs.declared.caches.CheckedCache.{CheckedCache}
use Rattle.request_check.specs.declared.caches.CheckedCache.TheVariants as asked
use Rattle.tao_base.specs.declared.id.Key.{Key}
use Rattle.tao_core.specs.Core.{Moment}
use Rattle.tao_core.specs.Deliveries.{AnswersDeliver, AnswersInbox, AnswersLoss, AnswersRefill, AnswersSecond, AnswersShow}

-- a node was emptied of an item, or held none
abbrev pub AnswersEvict : NodeName → Option Key → Moment → Reply → Moment → Type 0
AnswersEvict node key old (Node (Cache (Evicted evicted))) new = ChangesCache node (Evicts key evicted) old.core.fleet new.core.fleet
AnswersEvict node key old reply new = ⊥

-- nothing changed but the core's nodes and their messages
abbrev pub OnlyNodesChange : Moment → Moment → Type 0
OnlyNodesChange old new = new ≡ record old { core = record old.core { fleet = new.core.fleet; mail = new.core.mail } }

-- what the reply to what is asked of a cache node says
abbrev pub AnswersCache : Bool → CheckedCache → Moment → Reply → Moment → Type 0
AnswersCache tells (asked.Deliver node message) old reply new = AnswersDeliver node message old.core reply new.core × OnlyNodesChange old new
AnswersCache tells (asked.Again node message) old reply new = AnswersSecond node message old.core reply new.core × OnlyNodesChange old new
AnswersCache tells (asked.Drop node message) old reply new = AnswersLoss node message old.core reply new.core × OnlyNodesChange old new
AnswersCache tells (asked.Refill node) old reply new = AnswersRefill tells node old reply new
AnswersCache tells (asked.Evict node key) old reply new =
    AnswersEvict node key old reply new × (new ≡ record old { core = record old.core { fleet = new.core.fleet } })
AnswersCache tells (asked.Show node key) old reply new = AnswersShow tells node key old reply × (new ≡ old)
AnswersCache tells (asked.Inbox node) old reply new = AnswersInbox node old.core reply × (new ≡ old)
