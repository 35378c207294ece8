use Rattle.std.proofs.Common.{◌≤◌, length, ap, ◌∙◌, arith}
use Rattle.load_gen.proofs.LeftLemmas.{call_is_next, first_is}
use Rattle.load_gen.proofs.workload.Workload.next.Goals as goal

pub returns-then-self-clause-came : goal.returns-then-self-clause-came
returns-then-self-clause-came c =
    let opened : length c.self.inside.names.tiers ≤ c.self.inside.opened = omega (arith, ap length c.tiers-tiers.ensures.names) in
    first_is _ _ _ (call_is_next c.self.inside c.in_ok-request-2.request c.call.new.draws opened c.if-self.true c.in_ok-request-2.ensures ∙ c.self.view_is)
