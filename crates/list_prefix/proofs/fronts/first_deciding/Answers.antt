use Rattle.std.proofs.Common.{arith, sym, ◌+◌, ◌-◌, ◌/◌, ℕ}
use Rattle.list_prefix.proofs.Changed.{in_order_take}
use Rattle.list_prefix.proofs.Longer.{open_fewer}
use Rattle.list_prefix.proofs.fronts.first_deciding.Goals as goal

pub is_decided-requires : goal.is_decided-requires
is_decided-requires c = in_order_take (c.loop-low.low + (c.loop-low.high - c.loop-low.low) / 2) c.args.edges.now c.requires.begins.in_order

pub loop-low-preserved : goal.loop-low-preserved
loop-low-preserved c =
    let middle : ℕ = c.loop-low.low + (c.loop-low.high - c.loop-low.low) / 2 in
    record {
      ordered = omega arith;
      within = c.loop-low.invariant.within;
      decided = c.loop-low.invariant.decided;
      open_below = λ fewer lt. open_fewer c.args.bound c.args.total c.args.query.now c.args.edges.now c.requires.begins fewer middle (omega arith)
          (sym c.if-is_decided.ensures);
    }
