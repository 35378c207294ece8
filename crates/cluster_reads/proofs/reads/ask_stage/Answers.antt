use Rattle.std.proofs.Common.{◌≡◌, subst, arith}
use Rattle.std.specs.Prelude.{◌-◌}
use Rattle.counts.specs.Count.{Rose}
use Rattle.locked_nodes.specs.Cluster.{MayFail}
use Rattle.cluster_reads.proofs.TakenSteps.{ends_after}
use Rattle.cluster_reads.specs.Reads.{StepsRead}
use Rattle.cluster_reads.proofs.reads.ask_stage.Goals as goal

pub returns : goal.returns
returns g c =
    let old = g.L.Link.shown c.args.link.now in
    let new = g.L.Link.shown c.ask_over-asked.new.link in
    let hops : c.saturating_sub-hops.result ≡ new.carries - old.carries = omega (arith, c.saturating_sub-hops.ensures, c.carries.ensures, c.carries-carries.ensures) in
    record {
      steps = subst (λ n. StepsRead g.J.Sharing.making g.J.Logs.log g.begun c.take_asked.new.read.seen n c.args.read.now.plan c.take_asked.new.read.plan) hops
          c.take_asked.ensures.steps;
      carries = c.ask_over-asked.ensures.carries;
      later = c.ask_over-asked.ensures.later;
      refused = ends_after (Rose old.faults new.faults) (MayFail g.K.Keeper.state) c.ask_over-asked.result c.take_asked.new.read.plan.at
          c.take_asked.ensures.after c.ask_over-asked.ensures.err;
    }
