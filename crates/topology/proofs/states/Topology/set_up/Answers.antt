use Rattle.std.proofs.Common.{rules}
use Rattle.topology.proofs.Places.{sets_up}
use Rattle.topology.proofs.states.Topology.set_up.Goals as goal

pub returns-clause-set : goal.returns-clause-set
returns-clause-set c _ = rw (← c.self.view_is) (rw c.set.ensures (rw c.node_place.ensures (sets_up _ c.self.invariant c.args.node (search rules) c.args.up)))
