use Rattle.follower_cache.proofs.Queued.{none_waits}
use Rattle.follower_cache.proofs.queue.RefillQueue.take.Goals as goal

pub returns-clause-none : goal.returns-clause-none
returns-clause-none c = rw (← c.self.view_is) (none_waits c.pop_front.result c.self.inside.rows.items c.pop_front.new.self.items c.pop_front.ensures.items
    c.pop_front.ensures.rest)
