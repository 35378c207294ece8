use Rattle.std.proofs.Common.{◌≡◌, subst, arith}
use Rattle.std.specs.Prelude.{◌-◌}
use Rattle.read_plan.specs.Readings.{Reading}
use Rattle.counts.specs.Count.{Rose}
use Rattle.locked_nodes.specs.Cluster.{MayFail}
use Rattle.cluster_reads.proofs.TakenSteps.{ends_after}
use Rattle.cluster_reads.specs.Reads.{StepsRead}
use Rattle.cluster_reads.proofs.reads.master_stage.Goals as goal

pub returns : goal.returns
returns g c =
    let old = g.L.Link.shown c.args.link.now in
    let new = g.L.Link.shown c.read_right-out.new.link in
    let hops : c.saturating_sub-hops.result ≡ new.carries - old.carries = omega (arith, c.saturating_sub-hops.ensures, c.carries.ensures, c.carries-carries.ensures) in
    record {
      steps = subst (λ n. StepsRead g.J.Sharing.making g.J.Logs.log g.begun c.take_out.new.read.seen n c.args.read.now.plan c.take_out.new.read.plan) hops
          (subst (λ (p : Reading). StepsRead g.J.Sharing.making g.J.Logs.log g.begun c.take_out.new.read.seen c.saturating_sub-hops.result p
          c.take_out.new.read.plan) c.read_right-out.ensures.plan c.take_out.ensures.steps);
      carries = c.read_right-out.ensures.carries;
      later = c.read_right-out.ensures.later;
      refused = ends_after (Rose old.faults new.faults) (MayFail g.K.Keeper.state) c.read_right-out.result c.take_out.new.read.plan.at
          c.take_out.ensures.after c.read_right-out.ensures.err;
    }
