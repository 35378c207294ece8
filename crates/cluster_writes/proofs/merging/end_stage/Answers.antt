use Rattle.cluster_writes.proofs.StepLemmas.{end_steps}
use Rattle.locked_nodes.specs.Cluster.{on_cluster}
use Rattle.cluster_writes.proofs.merging.end_stage.Goals as goal

pub returns : goal.returns
returns g c =
    let on = on_cluster g.K.Keeper.TELLS g.K.Keeper.state g.J.Sharing.making g.J.Logs.log in
    end_steps on c.args.write.now c.end_there-result.new.seen c.end_there-result.result c.take-2.new.self c.take.new.self c.requires.stage c.end_there-result.ensures.grows
    c.end_there-result.ensures.left c.take-2.ensures.next c.take.ensures.after
