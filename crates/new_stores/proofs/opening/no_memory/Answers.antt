use Rattle.new_stores.proofs.EmptyStores.{never_refused}
use Rattle.new_stores.proofs.opening.no_memory.Goals as goal

pub unreachable-requires-in-KeeperFault : goal.unreachable-requires-in-KeeperFault
unreachable-requires-in-KeeperFault c = let memory = never_refused c.args.config.now c.args.line.now c.args.fail c.requires in cc (memory, c.in-KeeperFault.is)

pub unreachable-requires-in-Disagree : goal.unreachable-requires-in-Disagree
unreachable-requires-in-Disagree c = let memory = never_refused c.args.config.now c.args.line.now c.args.fail c.requires in cc (memory, c.in-Disagree.is)

pub unreachable-requires : goal.unreachable-requires
unreachable-requires c = let memory = never_refused c.args.config.now c.args.line.now c.args.fail c.requires in cc (memory, c.in-OtherLine.is)
