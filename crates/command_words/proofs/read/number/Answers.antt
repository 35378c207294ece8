use Rattle.std.proofs.Common.{rules, sym}
use Rattle.command_words.proofs.Numbers.{found_number, not_read, other_number}
use Rattle.command_words.proofs.read.number.Goals as goal

pub returns-in_default : goal.returns-in_default
returns-in_default c = sym (not_read _ c.args.text.now c.in_default.field-0 c.parse.result c.parse.ensures.value.0 c.in_default.is)

pub returns-then-eq : goal.returns-then-eq
returns-then-eq c = sym (found_number c.in-Ok.number c.args.text.now (search rules) (search rules))

pub returns : goal.returns
returns c = sym (other_number _ c.in-Ok.number c.args.text.now c.parse.result c.parse.ensures.value.0 c.in-Ok.is (search rules))
