use Rattle.std.proofs.Common.{arith, map, rules}
use Rattle.tao_base.proofs.InOrder.{data_in_order, put_in_order}
use Rattle.tao_base.specs.Data.{pair_of}
use Rattle.tao_base.proofs.data.Data.of_pairs.Goals as goal

pub invariant_of-result : goal.invariant_of-result
invariant_of-result c = data_in_order (map pair_of c.args.pairs.items) c.in_ok-pairs.pairs.items c.in-Some.bytes c.in_ok-pairs.ensures (omega arith)
    (search rules) (omega arith)

pub returns-clause-limits : goal.returns-clause-limits
returns-clause-limits c = data_in_order (map pair_of c.args.pairs.items) c.in_ok-pairs.pairs.items c.in-Some.bytes c.in_ok-pairs.ensures (omega arith)
    (search rules) (omega arith)

pub returns-clause-last_counts : goal.returns-clause-last_counts
returns-clause-last_counts c = rw c.in_ok-pairs.ensures (put_in_order (map pair_of c.args.pairs.items))
