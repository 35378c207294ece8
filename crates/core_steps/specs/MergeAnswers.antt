-- What the stages of a job answer, by what the stores and the link answered them.
use Rattle.std.specs.Prelude.{⊤, Bool, Some, None, Result, Ok, Err}
use Rattle.counts.specs.Count.{Rose}
use Rattle.core_model.specs.Jobs.{ShardJob}
use Rattle.core_nodes.specs.Repairs.{FindsNoRoom}
use Rattle.graph_model.specs.Told.{WhereTold}
use Rattle.replies.specs.declared.calls.ScheduledWhy.TheVariants as why
use Rattle.shard_tables.specs.declared.refusal.StoreRefusal.{StoreRefusal}
use Rattle.shard_tables.specs.declared.refusal.StoreRefusal.TheVariants.{KeeperFault, LogFull, ShardFull, StampFull, SeqReused, TooOld, OutOfMemory}
use Rattle.shard_tables.specs.declared.writes.Wrote.{Wrote}
use Rattle.store_replies.specs.Refused.{why_left_open}
use Rattle.tao_keeper.specs.KeeperState.{KeeperState}
use Rattle.tao_link.specs.declared.link.LinkFailed.{LinkFailed}
use Rattle.topology.specs.Config.{Settings}
use Rattle.write_plan.specs.declared.results.LeftOpen.{LeftOpen}
use Rattle.write_plan.specs.declared.results.LeftOpen.TheVariants.{Scheduled}

-- why a store refused to merge a job: a fault that came now, a log that has no room, or no memory
abbrev pub RefusesMerge : Bool → Settings → ShardJob → StoreRefusal → KeeperState → KeeperState → Type 0
RefusesMerge tells s j KeeperFault old new = Rose old.faults new.faults
RefusesMerge tells s j (LogFull count) old new = WhereTold tells (FindsNoRoom s j count old)
RefusesMerge tells s j OutOfMemory old new = ⊤
RefusesMerge tells s j (TooOld cut at) old new = ⊥
RefusesMerge tells s j (SeqReused at) old new = ⊥
RefusesMerge tells s j (ShardFull serial) old new = ⊥
RefusesMerge tells s j (StampFull number) old new = ⊥

-- the job stays open, and nothing was written
abbrev pub left_open_as : StoreRefusal → LeftOpen
left_open_as refusal = Scheduled (why_left_open refusal) None

-- what a merge is answered, over the carry back: what was written is said also where its answer was lost, and a refusal stands in any case
abbrev pub merge_answer : Result Wrote StoreRefusal → Result ⊤ LinkFailed → Result Wrote LeftOpen
merge_answer (Ok wrote) (Ok done) = Ok wrote
merge_answer (Ok wrote) (Err lost) = Err (Scheduled why.LinkFault (Some wrote))
merge_answer (Err refusal) back = Err (left_open_as refusal)
