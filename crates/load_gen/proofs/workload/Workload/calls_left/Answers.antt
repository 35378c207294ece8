use Rattle.std.proofs.Common.{ap, sym, ◌∙◌}
use Rattle.load_gen.proofs.Counted.{calls_are_left}
use Rattle.load_gen.specs.Summary.{calls_in}
use Rattle.load_gen.proofs.workload.Workload.calls_left.Goals as goal

pub returns : goal.returns
returns c = sym (calls_are_left c.self.inside) ∙ ap calls_in c.self.view_is
