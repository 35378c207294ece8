use Rattle.std.proofs.Common.{◌≡◌, ◌∙◌, ◌+◌, [], ap, arith}
use Rattle.low_water.proofs.Rings.{ahead_of_clear, clear_from}
use Rattle.low_water.specs.Marks.{Marks, marks}
use Rattle.low_water.specs.RingWords.{ahead_of, IsClear}
use Rattle.low_water.proofs.LowWater.restart.Goals as goal

pub returns : goal.returns
returns c =
    let none : ahead_of c.self.inside.ring c.self.inside.low ≡ [] = ap (λ (m : Marks). m.ahead) (c.self.view_is ∙ c.forget_ahead.ensures) in
    ap (λ ahead. marks c.args.low ahead) (ahead_of_clear c.self.inside.ring c.args.low (clear_from c.self.inside.ring c.self.inside.low none))

pub invariant_of-self : goal.invariant_of-self
invariant_of-self c =
    let none : ahead_of c.self.inside.ring c.self.inside.low ≡ [] = ap (λ (m : Marks). m.ahead) (c.self.view_is ∙ c.forget_ahead.ensures) in
    let clear : IsClear c.self.inside.ring = clear_from c.self.inside.ring c.self.inside.low none in
    record {
      low_top = omega arith;
      near = omega arith;
      next = clear (c.args.low + 1);
      top_set = λ over. absurd (omega arith);
      above = λ q l h. clear q;
    }
