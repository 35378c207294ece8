-- What is replied to the read of a refill.
use Rattle.replies.specs.declared.calls.CallReply.TheVariants as called
use Rattle.replies.specs.declared.nodes.CacheReply.TheVariants.{Refilled}
use Rattle.replies.specs.declared.nodes.NodeReply.TheVariants.{Cache}
use Rattle.replies.specs.declared.reply.Reply.{Reply}
use Rattle.replies.specs.declared.reply.Reply.TheVariants.{Called, Node}

-- the read of a refill is replied without its answer
abbrev pub refilled_as : Reply → Reply
refilled_as (Called (called.Read reply)) =
    Node (Cache (Refilled (record { hops = reply.hops; store = reply.store; version = reply.version; kept = reply.kept })))
refilled_as reply = reply
