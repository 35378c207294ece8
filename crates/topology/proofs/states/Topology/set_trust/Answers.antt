use Rattle.std.proofs.Common.{rules, arith}
use Rattle.topology.proofs.Places.{sets_trust, suspicion_place_below}
use Rattle.topology.specs.Suspicions.{suspicion_of}
use Rattle.topology.proofs.states.Topology.set_trust.Goals as goal

pub set-requires : goal.set-requires
set-requires c = rw c.suspicion_place.ensures (omega
    (arith, suspicion_place_below _ c.self.invariant (suspicion_of c.args.region c.args.tier c.args.leader) (search rules), c.self.invariant.suspected))

pub returns-clause-set : goal.returns-clause-set
returns-clause-set c _ = rw (← c.self.view_is) (rw c.set.ensures (rw c.suspicion_place.ensures (sets_trust _ c.self.invariant _ (search rules) c.args.trusted)))
