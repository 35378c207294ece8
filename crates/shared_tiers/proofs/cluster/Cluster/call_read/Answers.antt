use Rattle.cluster_reads.specs.Reads.{RepliesToRead, asked_with}
use Rattle.cluster_closing.specs.locked_nodes.Cluster.{on_cluster}
use Rattle.shared_tiers.proofs.CallLemmas.{since_so}
use Rattle.shared_tiers.specs.Calls.{calling}
use Rattle.tao_base.specs.Queries.{query_shard}
use Rattle.shared_tiers.proofs.cluster.Cluster.call_read.Goals as goal

pub returns-clause-replies : goal.returns-clause-replies
returns-clause-replies g c =
    since_so g.J.Sharing.making g.J.Logs.log (calling c.args.pass.now (g.L.Link.shown c.args.link.now)) (query_shard c.args.call.query)
    (λ begins. RepliesToRead (on_cluster g.K.Keeper.TELLS g.K.Keeper.state g.J.Sharing.making g.J.Logs.log) begins
    (asked_with g.J.Sharing.making c.args.pass.now c.args.call.query c.args.call.critical) c.args.pass.now c.read.new.pass
    (g.L.Link.shown c.read.new.link) c.read.result)
    c.requires.pass c.requires.placed c.read.ensures.replies
