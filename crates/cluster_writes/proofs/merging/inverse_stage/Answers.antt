use Rattle.std.proofs.Common.{◌≡◌, List, subst, arith}
use Rattle.std.specs.Prelude.{◌-◌}
use Rattle.cluster_writes.proofs.StepLemmas.{counted_steps, inverse_committed, inverse_steps, owes_in}
use Rattle.locked_nodes.specs.Cluster.{on_cluster}
use Rattle.cluster_writes.specs.Open.{IsMergeOf}
use Rattle.counts.specs.Count.{Rose}
use Rattle.shard_log.specs.View.{View}
use Rattle.cluster_writes.proofs.merging.inverse_stage.Goals as goal

pub merge_over-result-requires-clause-committed : goal.merge_over-result-requires-clause-committed
merge_over-result-requires-clause-committed g c =
    let on = on_cluster g.K.Keeper.TELLS g.K.Keeper.state g.J.Sharing.making g.J.Logs.log in
    inverse_committed on c.args.write.now c.requires.1.1.1.1.1.1.1

pub merge_over-result-requires-clause-owes : goal.merge_over-result-requires-clause-owes
merge_over-result-requires-clause-owes g c =
    let on = on_cluster g.K.Keeper.TELLS g.K.Keeper.state g.J.Sharing.making g.J.Logs.log in
    owes_in on g.begun (g.L.Link.shown c.args.link.now).faults c.args.write.now c.requires.1.1.1.1.1.1.0

pub returns : goal.returns
returns g c =
    let on = on_cluster g.K.Keeper.TELLS g.K.Keeper.state g.J.Sharing.making g.J.Logs.log in
    let old = g.L.Link.shown c.args.link.now in
    let new = g.L.Link.shown c.merge_over-result.new.link in
    let hops : c.saturating_sub-hops.result ≡ new.carries - old.carries =
    omega (arith, c.saturating_sub-hops.ensures, c.carries.ensures, c.carries-carries.ensures) in
    record {
      steps = counted_steps on g.begun new.faults c.saturating_sub-hops.result old.carries new.carries c.args.write.now
          (record { plan = c.take.new.self; seen = c.merge_over-result.new.seen; done = c.put.new.place; far = c.put-2.new.place }) hops
          (inverse_steps on g.begun old.faults new.faults c.args.write.now c.merge_over-result.new.seen c.merge_over-result.result c.saturating_sub-hops.result
          c.take.new.self c.put.new.place c.put-2.new.place c.requires.1.1.1.1.1.1.0 c.requires.1.1.1.1.1.1.1 c.merge_over-result.ensures.later c.merge_over-result.ensures.grows
          (subst (λ (notes : List View). IsMergeOf on notes c.args.write.now.plan (Rose old.faults new.faults) c.merge_over-result.result)
          c.requires.1.1.1.1.1.0 c.merge_over-result.ensures.merge) c.take.ensures.next c.put.ensures c.put-2.ensures);
      pass = c.merge_over-result.ensures.pass;
      later = c.merge_over-result.ensures.carries;
    }
