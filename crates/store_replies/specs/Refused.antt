-- How a store's refusal is said, and why it leaves a job open.
use Rattle.std.specs.Prelude.{ℕ}
use Rattle.replies.specs.declared.calls.ScheduledWhy.{ScheduledWhy}
use Rattle.replies.specs.declared.calls.ScheduledWhy.TheVariants as why
use Rattle.replies.specs.declared.refusals.Refusal.{Refusal}
use Rattle.replies.specs.declared.refusals.Refusal.TheVariants.{Store, Memory}
use Rattle.replies.specs.declared.refusals.StoreRefused.TheVariants.{SeqReused, TooOld, ShardFull, StampFull, LogFull, KeeperFault}
use Rattle.shard_tables.specs.declared.refusal.StoreRefusal.{StoreRefusal}
use Rattle.shard_tables.specs.declared.refusal.StoreRefusal.TheVariants as store

-- how a store's refusal is said, where the keepers have counted so many faults
abbrev pub refused_as : ℕ → StoreRefusal → Refusal
refused_as faults store.KeeperFault = Store (KeeperFault faults)
refused_as faults store.OutOfMemory = Memory 0
refused_as faults (store.TooOld cut position) = Store (TooOld cut position)
refused_as faults (store.SeqReused position) = Store (SeqReused position)
refused_as faults (store.ShardFull serial) = Store (ShardFull serial)
refused_as faults (store.StampFull number) = Store (StampFull number)
refused_as faults (store.LogFull count) = Store (LogFull count)

-- why a job is left open that the store refused to merge or to end; what refuses a write alone refuses neither
abbrev pub why_left_open : StoreRefusal → ScheduledWhy
why_left_open store.KeeperFault = why.KeeperFault
why_left_open (store.LogFull count) = why.LogFull
why_left_open refusal = why.Memory
