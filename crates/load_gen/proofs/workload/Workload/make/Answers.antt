use Rattle.std.proofs.Common.{◌≡◌, ◌-◌, ◌∙◌, false, arith}
use Rattle.load_gen.proofs.Counted.{calls_are_left}
use Rattle.load_gen.proofs.workload.Workload.make.Goals as goal

pub returns-clause-calls : goal.returns-clause-calls
returns-clause-calls c =
    let all : c.args.calls - 0 ≡ c.args.calls = omega arith in
    calls_are_left (record { names = c.in_ok-of.field-0; draws = c.of-2.result; opened = 0; made = 0; calls = c.args.calls; settled = false }) ∙ all
