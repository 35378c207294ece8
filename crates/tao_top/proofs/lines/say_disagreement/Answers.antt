use Rattle.first_line.proofs.FirstLemmas.{whole_part}
use Rattle.tao_top.proofs.lines.say_disagreement.Goals as goal

pub returns-in-Ok-clause-part : goal.returns-in-Ok-clause-part
returns-in-Ok-clause-part g c = whole_part _ _ _ c.in-Ok.ensures.ok
