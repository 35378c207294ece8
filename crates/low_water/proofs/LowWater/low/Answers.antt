use Rattle.low_water.proofs.AddedMarks.{window_greatest}
use Rattle.low_water.proofs.Rings.{ring_window}
use Rattle.low_water.proofs.LowWater.low.Goals as goal

pub returns-clause-greatest : goal.returns-clause-greatest
returns-clause-greatest c = rw (← c.self.view_is) (window_greatest _ (ring_window c.self.inside.ring c.self.inside.low c.self.invariant.next))

pub returns-clause-window : goal.returns-clause-window
returns-clause-window c = rw (← c.self.view_is) (ring_window c.self.inside.ring c.self.inside.low c.self.invariant.next)
