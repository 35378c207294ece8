use Rattle.std.proofs.Common.{refl, sym, arith, ◌∙◌}
use Rattle.cluster_writes.proofs.StepLemmas.{counted_steps, done_held, owes_in}
use Rattle.locked_nodes.specs.Cluster.{on_cluster}
use Rattle.cluster_writes.proofs.running.step.Goals as goal

pub end_stage-requires-clause-owes : goal.end_stage-requires-clause-owes
end_stage-requires-clause-owes g c =
    let on = on_cluster g.K.Keeper.TELLS g.K.Keeper.state g.J.Sharing.making g.J.Logs.log in
    owes_in on g.begun (g.L.Link.shown c.args.link.now).faults c.args.write.now c.requires.1.1.1.1.1.1.0

pub end_stage-requires-clause-done : goal.end_stage-requires-clause-done
end_stage-requires-clause-done g c =
    let on = on_cluster g.K.Keeper.TELLS g.K.Keeper.state g.J.Sharing.making g.J.Logs.log in
    done_held on g.begun (g.L.Link.shown c.args.link.now).faults c.args.write.now c.requires.1.1.1.1.1.1.0 (sym c.next.ensures ∙ c.in-End.is)

pub returns-in-End : goal.returns-in-End
returns-in-End g c =
    let on = on_cluster g.K.Keeper.TELLS g.K.Keeper.state g.J.Sharing.making g.J.Logs.log in
    let link = g.L.Link.shown c.args.link.now in
    record {
      steps = counted_steps on g.begun link.faults 0 link.carries link.carries c.args.write.now c.end_stage.new.write (omega arith)
          (c.end_stage.ensures.steps g.begun link.faults c.requires.1.1.1.1.1.1.0);
      pass = refl;
      later = omega arith;
    }
