use Rattle.topology.proofs.Places.{leads_some}
use Rattle.topology.proofs.states.Topology.preferred.Goals as goal

pub returns-clause-configured : goal.returns-clause-configured
returns-clause-configured c lt =
    rw c.remainder.ensures (rw c.leader_count.ensures (rw (← c.counts.ensures.counts)
    (leads_some c.counts.result.now c.counts.ensures.keep c.args.region c.args.shard (rw c.counts.ensures.counts lt))))
