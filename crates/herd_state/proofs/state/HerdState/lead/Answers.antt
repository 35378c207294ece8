use Rattle.std.proofs.Common.{Some, refl, ap}
use Rattle.herd_state.proofs.Joining.{becomes}
use Rattle.herd_state.proofs.state.HerdState.lead.Goals as goal

pub returns : goal.returns
returns c = (
  refl,
  becomes c.args.name.now _ _ c.self.inside.leads.entries c.args.self.now c.insert.new.self.entries (ap Some c.make.ensures) c.self.view_is
      c.in_ok-insert.ensures.updates.0,
)
