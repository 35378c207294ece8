use Rattle.std.proofs.Common.{subst}
use Rattle.herd_state.proofs.Joining.{is_open, joins_open}
use Rattle.herd_state.specs.Herds.{JoinsAs}
use Rattle.herd_state.specs.Leads.{Leads}
use Rattle.herd_state.proofs.state.HerdState.join.Goals as goal

pub returns-in-Some-clause-joins : goal.returns-in-Some-clause-joins
returns-in-Some-clause-joins c =
    let inside = c.self.inside.leads in
    let now = c.wait_for.new.waiting in
    let there = is_open c.args.name.now c.in-Some.waiting.now inside.entries c.in-Some.ensures.value in
    subst (λ (old : Leads). JoinsAs c.args.name.now c.args.cx.now c.wait_for.new.cx old (c.get_mut.follows.lender now).entries c.wait_for.result) c.self.view_is
    (joins_open c.args.name.now c.args.cx.now c.wait_for.new.cx c.in-Some.waiting.now now inside.entries (c.get_mut.follows.lender now).entries
    c.wait_for.result c.wait_for.ensures.waits c.in-Some.ensures.value ((c.get_mut.follows.holds now).3 there).0)
