use Rattle.cluster_writes.specs.Replies.{RepliesToWrite}
use Rattle.core_model.specs.Asked.{client_call}
use Rattle.cluster_closing.specs.locked_nodes.Cluster.{on_cluster}
use Rattle.shared_tiers.proofs.CallLemmas.{since_so}
use Rattle.shared_tiers.specs.Calls.{calling}
use Rattle.tao_base.specs.Writes.{write_shard}
use Rattle.tao_base.specs.declared.entry.Origin.TheVariants.{Client}
use Rattle.shared_tiers.proofs.cluster.Cluster.call_write.Goals as goal

pub returns-clause-replies : goal.returns-clause-replies
returns-clause-replies g c =
    since_so g.J.Sharing.making g.J.Logs.log (calling c.args.pass.now (g.L.Link.shown c.args.link.now)) (write_shard c.args.call.write)
    (λ begins. RepliesToWrite (on_cluster g.K.Keeper.TELLS g.K.Keeper.state g.J.Sharing.making g.J.Logs.log) begins
    (client_call (Client c.args.call.session c.args.call.seq) c.args.call.write) c.args.pass.now c.write.new.pass
    (g.L.Link.shown c.write.new.link) c.write.result)
    c.requires.pass c.requires.placed.configured c.write.ensures.replies
