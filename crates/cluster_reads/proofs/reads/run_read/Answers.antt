use Rattle.cluster_reads.proofs.TakenSteps.{ends_read, under_way_on}
use Rattle.cluster_reads.specs.Reads.{asked_by}
use Rattle.locked_nodes.specs.Cluster.{on_cluster}
use Rattle.cluster_reads.proofs.reads.run_read.Goals as goal

pub loop-preserved : goal.loop-preserved
loop-preserved g c =
    under_way_on (on_cluster g.K.Keeper.TELLS g.K.Keeper.state g.J.Sharing.making g.J.Logs.log) g.begun (asked_by c.args.read.plan) c.loop.read.seen
    c.step.new.read.seen (g.L.Link.shown c.loop.link) (g.L.Link.shown c.step.new.link) c.loop.read.plan c.step.new.read.plan c.loop.invariant
    c.step.ensures.carries c.step.ensures.later c.step.ensures.steps c.step.ensures.refused

pub returns-clause-ends : goal.returns-clause-ends
returns-clause-ends g c =
    ends_read (on_cluster g.K.Keeper.TELLS g.K.Keeper.state g.J.Sharing.making g.J.Logs.log) g.begun (asked_by c.args.read.plan) c.loop.read.seen
    (g.L.Link.shown c.loop.link) c.loop.read.plan c.finish.result c.loop.invariant c.finish.ensures
