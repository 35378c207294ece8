use Rattle.core_steps.proofs.LinkLemmas.{carried_on, failed_carry}
use Rattle.core_plans.proofs.way_back.carry_back.Goals as goal

pub returns-in-Ok-clause-link : goal.returns-in-Ok-clause-link
returns-in-Ok-clause-link g c = carried_on (g.L.Link.shown c.args.link.now) (g.L.Link.shown c.apply_over.new.link) c.in-Ok.ensures.carried

pub returns-in-Err-clause-link : goal.returns-in-Err-clause-link
returns-in-Err-clause-link g c = failed_carry _ (g.L.Link.shown c.args.link.now) (g.L.Link.shown c.apply_over.new.link) c.in-Err.ensures.failed
