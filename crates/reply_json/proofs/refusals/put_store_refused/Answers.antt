use Rattle.reply_json.proofs.refusals.put_store_refused.Goals as goal

pub returns-in-ShardFull : goal.returns-in-ShardFull
returns-in-ShardFull c = rw (c.in-ShardFull.is) c.put_about_number-in-ShardFull.ensures

pub returns-in-StampFull : goal.returns-in-StampFull
returns-in-StampFull c = rw (c.in-StampFull.is) c.put_about_number-in-StampFull.ensures

pub returns-in-KeeperFault : goal.returns-in-KeeperFault
returns-in-KeeperFault c = rw (c.in-KeeperFault.is) c.put_number_about-in-KeeperFault.ensures
