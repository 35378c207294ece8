use Rattle.std.proofs.Common.{arith, rules, sym}
use Rattle.topology.proofs.Numbers.{found_number, other_number, padded_number}
use Rattle.topology.proofs.lookup.number_below.Goals as goal

pub returns-then-is_padded : goal.returns-then-is_padded
returns-then-is_padded c = sym (padded_number c.args.count c.args.text.now (omega arith) (search rules))

pub returns-in_default : goal.returns-in_default
returns-in_default c = sym (other_number _ c.args.count c.args.text.now c.in_default.field-0 c.parse.result c.parse.ensures.value.0 c.in_default.is
    (omega arith))

pub returns-then-number-count : goal.returns-then-number-count
returns-then-number-count c = sym (found_number _ c.args.count c.in-Ok.number c.args.text.now c.parse.result c.parse.ensures.value.0 c.in-Ok.is (search rules)
    (search rules))
