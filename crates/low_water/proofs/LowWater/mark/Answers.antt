use Rattle.std.proofs.Common.{◌≡◌, ◌∙◌, ap, arith}
use Rattle.std.specs.Prelude.{max}
use Rattle.low_water.specs.Marks.{marks, is_marked, with_mark}
use Rattle.low_water.specs.RingWords.{ahead_of, Absorbs}
use Rattle.low_water.proofs.AddedMarks.{mark_adds, window_greatest}
use Rattle.low_water.proofs.Rings.{ring_mark, ring_window, top_set_after, above_after}
use Rattle.low_water.proofs.LowWater.mark.Goals as goal

pub returns-then-position-self-clause-greatest : goal.returns-then-position-self-clause-greatest
returns-then-position-self-clause-greatest c = rw (← c.self.view_is)
    (window_greatest _ (ring_window c.self.inside.ring c.self.inside.low c.self.invariant.next))

pub invariant_of-self : goal.invariant_of-self
invariant_of-self c =
    let absorbs : Absorbs c.put.new.self c.absorb-self-inside.new.self c.self.inside.low (max c.self.inside.top c.args.position) c.absorb-self-inside.result
    = rw (← c.max-self-inside.ensures) c.absorb-self-inside.ensures in
    record {
      low_top = c.absorb-self-inside.ensures.to;
      near = omega (arith, absorbs.from, c.self.invariant.near, c.max-self-inside.ensures);
      next = absorbs.next;
      top_set = rw c.max-self-inside.ensures (top_set_after c.self.inside.ring c.put.new.self c.absorb-self-inside.new.self c.self.inside.low c.self.inside.top
          c.absorb-self-inside.result c.args.position (omega arith)
          (omega arith) c.self.invariant.low_top c.self.invariant.near c.put.ensures absorbs c.self.invariant.top_set);
      above = rw c.max-self-inside.ensures (above_after c.self.inside.ring c.put.new.self c.absorb-self-inside.new.self c.self.inside.low c.self.inside.top
          c.absorb-self-inside.result c.args.position (omega arith)
          (omega arith) c.self.invariant.low_top c.self.invariant.near c.put.ensures absorbs c.self.invariant.above);
    }

pub returns-clause-after : goal.returns-clause-after
returns-clause-after c =
    let absorbs : Absorbs c.put.new.self c.absorb-self-inside.new.self c.self.inside.low (max c.self.inside.top c.args.position) c.absorb-self-inside.result
    = rw (← c.max-self-inside.ensures) c.absorb-self-inside.ensures in
    ring_mark c.self.inside.ring c.put.new.self c.absorb-self-inside.new.self c.self.inside.low c.self.inside.top c.absorb-self-inside.result c.args.position
    (omega arith) (omega arith) c.self.invariant.low_top c.self.invariant.near c.put.ensures absorbs
    ∙ ap (with_mark c.args.position) c.self.view_is

pub returns-clause-marked : goal.returns-clause-marked
returns-clause-marked c q =
    let after : marks c.absorb-self-inside.result (ahead_of c.absorb-self-inside.new.self c.absorb-self-inside.result) ≡ with_mark c.args.position
    c.args.self.now = returns-clause-after c in
    ap (λ m. is_marked m q) after ∙ (mark_adds c.args.self.now c.args.position).marked q

pub returns-clause-greatest : goal.returns-clause-greatest
returns-clause-greatest c = window_greatest _ (ring_window c.absorb-self-inside.new.self c.absorb-self-inside.result c.absorb-self-inside.ensures.next)
