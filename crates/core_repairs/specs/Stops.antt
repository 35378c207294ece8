-- What a settle stops with where what it does at a shard is refused.
use Rattle.std.specs.Prelude.{ℕ, ◌≡◌, ⊤}
use Rattle.core_steps.specs.core_nodes.declared.settling.SettleStop.{SettleStop}
use Rattle.core_steps.specs.core_nodes.declared.settling.SettleStop.TheVariants as stop
use Rattle.replies.specs.declared.refusals.NodeRefused.TheVariants.{NoServer}
use Rattle.replies.specs.declared.refusals.Refusal.{Refusal}
use Rattle.replies.specs.declared.refusals.Refusal.TheVariants.{Memory, Node, Store}
use Rattle.replies.specs.declared.refusals.StoreRefused.TheVariants.{KeeperFault, LinkFault, LogFull, Unsettled}
use Rattle.replies.specs.declared.refusals.UnsettledWhy.TheVariants as why
use Rattle.replies.specs.declared.reply.Reply.{Reply}
use Rattle.replies.specs.declared.reply.Reply.TheVariants.{Refused}
use Rattle.topology.specs.Choices.{master_region}
use Rattle.topology.specs.States.{NodeStates}

-- a job or a step of a stream is refused for a fault, a full log, as out of memory, or since a job is owed on no configured shard
abbrev pub IsOfSettles : Refusal → Type 0
IsOfSettles (Store (KeeperFault count)) = ⊤
IsOfSettles (Store (LinkFault count when)) = ⊤
IsOfSettles (Store (LogFull count)) = ⊤
IsOfSettles (Node (NoServer region)) = ⊤
IsOfSettles (Memory position) = ⊤
IsOfSettles refusal = ⊥

-- what a settle stops with where a job of the shard, or a step into a store of it, is refused
abbrev pub StopsAsRefused : ℕ → Refusal → SettleStop → Type 0
StopsAsRefused shard (Store (KeeperFault count)) given = given ≡ stop.Unsettled shard why.KeeperFault
StopsAsRefused shard (Store (LinkFault count when)) given = given ≡ stop.Unsettled shard why.LinkFault
StopsAsRefused shard (Store (LogFull count)) given = given ≡ stop.Unsettled shard why.LogFull
StopsAsRefused shard (Node (NoServer region)) given = given ≡ stop.NoServer shard
StopsAsRefused shard (Memory position) given = given ≡ stop.OutOfMemory
StopsAsRefused shard refusal given = ⊥

-- how that is replied: where no server was found, by the master's region of the shard at which it stopped
abbrev pub unsettled_as : NodeStates → SettleStop → Reply
unsettled_as states (stop.Unsettled shard why) = Refused (Store (Unsettled shard why))
unsettled_as states (stop.NoServer shard) = Refused (Node (NoServer (master_region states shard)))
unsettled_as states stop.OutOfMemory = Refused (Memory 0)
