use Rattle.std.proofs.Common.{◌≡◌, Some, subst}
use Rattle.std.specs.Prelude.{slice_get}
use Rattle.locked_nodes.specs.Begun.{begun}
use Rattle.locked_nodes.specs.Cluster.{on_cluster}
use Rattle.cluster_reads.proofs.WholeReads.{read_done, read_reached}
use Rattle.cluster_reads.proofs.reads.read.Goals as goal

pub learn_told-requires-clause-reached : goal.learn_told-requires-clause-reached
learn_told-requires-clause-reached g c =
    read_reached (on_cluster g.K.Keeper.TELLS g.K.Keeper.state g.J.Sharing.making g.J.Logs.log) c.args.pass.now c.prepare.new.pass c.args.query
    c.args.critical c.begin_read-plan.result c.key-key.result c.prepare.ensures.same c.begin_read-plan.ensures c.key-key.ensures
    (begun c.in-Ok.seen (g.L.Link.shown c.args.link.now)) c.run_read-reply.result.1 (g.L.Link.shown c.run_read-reply.new.link) c.run_read-reply.result.0
    c.version_told.result c.version_told.ensures c.run_read-reply.ensures.ends

pub returns-clause-replies : goal.returns-clause-replies
returns-clause-replies g c =
    read_done (on_cluster g.K.Keeper.TELLS g.K.Keeper.state g.J.Sharing.making g.J.Logs.log) c.args.pass.now c.prepare.new.pass c.args.query c.args.critical
    c.begin_read-plan.result c.key-key.result c.prepare.ensures.same c.begin_read-plan.ensures c.key-key.ensures c.in-Ok.seen c.run_read-reply.result.1
    (g.L.Link.shown c.args.link.now) (g.L.Link.shown c.run_read-reply.new.link) c.learn_told.new.pass c.run_read-reply.result.0 c.version_told.result
    c.version_told.ensures (subst (λ n. slice_get c.args.pass.now.notes n ≡ Some c.in-Ok.seen) c.shard.ensures c.in-Ok.ensures.note)
    c.run_read-reply.ensures.ends c.learn_told.ensures.sees c.learn_told.ensures.learns
