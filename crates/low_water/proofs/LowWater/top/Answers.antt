use Rattle.std.proofs.Common.{◌≡◌}
use Rattle.low_water.proofs.AddedMarks.{top_is}
use Rattle.low_water.proofs.Rings.{ring_top}
use Rattle.low_water.specs.Marks.{top_of}
use Rattle.low_water.proofs.LowWater.top.Goals as goal

pub returns-clause-value : goal.returns-clause-value
returns-clause-value c = rw (← c.self.view_is) (ring_top c.self.inside.ring c.self.inside.low c.self.inside.top c.self.invariant.low_top c.self.invariant.near
    c.self.invariant.top_set c.self.invariant.above)

pub returns-clause-marked : goal.returns-clause-marked
returns-clause-marked c = let value : c.self.inside.top ≡ top_of c.args.self.now = returns-clause-value c in rw value ((top_is c.args.self.now).marked)

pub returns-clause-greatest : goal.returns-clause-greatest
returns-clause-greatest c = let value : c.self.inside.top ≡ top_of c.args.self.now = returns-clause-value c in rw value ((top_is c.args.self.now).greatest)
