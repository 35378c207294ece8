use Rattle.cluster_reads.specs.Reads.{IsUnderWay, asked_by}
use Rattle.locked_nodes.specs.Cluster.{on_cluster}
use Rattle.cluster_reads.proofs.reads.run_read.Given as goal

abbrev pub ghost-step : goal.ghost-step
ghost-step g a = g.begun

-- the stages so far
abbrev pub invariant-loop : goal.invariant-loop
invariant-loop g l =
    IsUnderWay (on_cluster g.K.Keeper.TELLS g.K.Keeper.state g.J.Sharing.making g.J.Logs.log) g.begun (asked_by l.fn.read.plan) l.read.seen
    (g.L.Link.shown l.link) l.read.plan
