use Rattle.std.proofs.Common.{arith, inl, inr}
use Rattle.std.proofs.lemmas.Bool.{cases_lt}
use Rattle.low_water.proofs.Rings.{clear_all}
use Rattle.low_water.proofs.ring.Ring.wipe.Goals as goal

pub returns : goal.returns
returns c = clear_all _ c.args.low (λ q l h. elim (cases_lt c.args.top q) [
  | inl over ↦ c.loop-position.invariant.above q over h
  | inr within ↦ c.loop-position.invariant.done q l (omega arith)
])
