use Rattle.std.proofs.Common.{arith}
use Rattle.std.proofs.lemmas.Grind.{common_steps}
use Rattle.tao_io.proofs.LineLaws.{takes_to_end}
use Rattle.tao_io.proofs.lines.LineReader.go_on.Goals as goal

pub returns-in_ok-hold-in-Some-clause-found : goal.returns-in_ok-hold-in-Some-clause-found
returns-in_ok-hold-in-Some-clause-found c =
    let ends = rw c.deref.ensures.value at c.in-Some.ensures in
    λ _. rw (← c.self.view_is) (takes_to_end c.self.inside.chunk.items c.args.line.now.items c.hold.new.line.items c.self.inside.at c.self.inside.end
    c.in-Some.count (grind (arith, common_steps, ends.0)) ends (grind (arith, common_steps)))
