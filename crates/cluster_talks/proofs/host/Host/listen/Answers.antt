use Rattle.cluster_talks.proofs.TalkedLemmas.{ended_source, talks_unread}
use Rattle.shared_tiers.specs.locked_nodes.Cluster.{on_cluster}
use Rattle.cluster_talks.proofs.host.Host.listen.Goals as goal

pub returns-in_err-new-clause-err : goal.returns-in_err-new-clause-err
returns-in_err-new-clause-err g c =
    talks_unread (on_cluster g.K.Keeper.TELLS g.K.Keeper.state g.J.Sharing.making g.J.Logs.log) c.from_residual.result _ _ _

pub returns-clause-end : goal.returns-clause-end
returns-clause-end g c = ended_source c.serve-served.result c.serve-served.new.listener.reader.ahead _ c.serve-served.ensures.end
