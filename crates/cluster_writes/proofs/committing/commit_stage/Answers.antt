use Rattle.std.proofs.Common.{◌≡◌, arith}
use Rattle.std.specs.Prelude.{◌-◌}
use Rattle.cluster_writes.proofs.StepLemmas.{commit_steps, counted_steps}
use Rattle.locked_nodes.specs.Cluster.{on_cluster}
use Rattle.cluster_writes.proofs.committing.commit_stage.Goals as goal

pub returns : goal.returns
returns g c =
    let on = on_cluster g.K.Keeper.TELLS g.K.Keeper.state g.J.Sharing.making g.J.Logs.log in
    let old = g.L.Link.shown c.args.link.now in
    let new = g.L.Link.shown c.commit_over-came.new.link in
    let hops : c.saturating_sub-hops.result ≡ new.carries - old.carries =
    omega (arith, c.saturating_sub-hops.ensures, c.carries.ensures, c.carries-carries.ensures) in
    record {
      steps = counted_steps on g.begun new.faults c.saturating_sub-hops.result old.carries new.carries c.args.write.now
          (record { plan = c.take.new.self; seen = c.commit_over-came.new.seen; done = c.args.write.now.done; far = c.args.write.now.far }) hops
          (commit_steps on g.begun old.faults new.faults c.args.write.now c.commit_over-came.new.seen c.commit_over-came.result c.saturating_sub-hops.result
          c.take.new.self c.requires.1.1.1.1.0 c.requires.1.1.1.1.1 c.commit_over-came.ensures.later c.commit_over-came.ensures.grows
          c.commit_over-came.ensures.answer c.commit_over-came.ensures.refused c.take.ensures.next);
      later = c.commit_over-came.ensures.carries;
    }
