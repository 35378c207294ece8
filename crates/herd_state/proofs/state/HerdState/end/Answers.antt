use Rattle.std.proofs.Common.{subst}
use Rattle.herd_state.proofs.Joining.{ends}
use Rattle.herd_state.specs.Herds.{EndsAs}
use Rattle.herd_state.specs.declared.name.HerdName.{HerdName}
use Rattle.herd_state.proofs.state.HerdState.end.Goals as goal

pub returns : goal.returns
returns c =
    subst (λ (name : HerdName). EndsAs name c.args.self.now c.swap_remove-found.new.self.entries c.those_of.result) c.ticket.view_is
    (ends c.ticket.inside.name c.self.inside.leads.entries c.args.self.now c.swap_remove-found.new.self.entries c.swap_remove-found.result c.those_of.result
    c.self.view_is c.swap_remove-found.ensures.value c.swap_remove-found.ensures.updates.0 c.those_of.ensures)
