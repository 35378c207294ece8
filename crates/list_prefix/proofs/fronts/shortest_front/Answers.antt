use Rattle.std.proofs.Common.{sym}
use Rattle.list_prefix.proofs.Changed.{in_order_take}
use Rattle.list_prefix.proofs.Longer.{left_open}
use Rattle.list_prefix.proofs.fronts.shortest_front.Goals as goal

pub is_decided-requires : goal.is_decided-requires
is_decided-requires c = in_order_take c.min-most.result c.args.edges.now c.requires.in_order

pub returns-then-not-is_decided-clause-none : goal.returns-then-not-is_decided-clause-none
returns-then-not-is_decided-clause-none c =
    left_open c.args.bound c.args.total c.min-most.result c.args.query.now c.args.edges.now c.requires c.min-most.ensures (sym c.if-not-is_decided.ensures)
