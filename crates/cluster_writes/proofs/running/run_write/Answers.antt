use Rattle.std.proofs.Common.{refl, ◌∙◌}
use Rattle.cluster_writes.proofs.StepLemmas.{under_way_first, under_way_on}
use Rattle.cluster_writes.specs.Open.{call_planned}
use Rattle.locked_nodes.specs.Cluster.{on_cluster}
use Rattle.cluster_writes.proofs.running.run_write.Goals as goal

pub loop-init : goal.loop-init
loop-init g c =
    let on = on_cluster g.K.Keeper.TELLS g.K.Keeper.state g.J.Sharing.making g.J.Logs.log in
    record {
      under = under_way_first on g.begun (g.L.Link.shown c.args.link.now) c.args.write c.requires.1.1.1.1.1.1.0 c.requires.1.1.1.1.1.1.1.0
          c.requires.1.1.1.1.1.1.1.1;
      pass = refl;
    }

pub loop-preserved : goal.loop-preserved
loop-preserved g c =
    let on = on_cluster g.K.Keeper.TELLS g.K.Keeper.state g.J.Sharing.making g.J.Logs.log in
    record {
      under = under_way_on on g.begun (call_planned c.args.write.plan) (g.L.Link.shown c.loop.link) (g.L.Link.shown c.step.new.link) c.loop.write
          c.step.new.write c.loop.invariant.under c.step.ensures.later c.step.ensures.steps;
      pass = c.step.ensures.pass ∙ c.loop.invariant.pass;
    }
