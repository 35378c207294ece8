use Rattle.std.proofs.Common.{subst, sym}
use Rattle.cluster_talks.proofs.TalkedLemmas.{known_status, whole_in_part}
use Rattle.cluster_talks.specs.Talked.{IsTalkStatus}
use Rattle.shared_tiers.specs.locked_nodes.Cluster.{on_cluster}
use Rattle.cluster_talks.proofs.talking.talk.Goals as goal

pub returns-in-Ok-clause-in_part : goal.returns-in-Ok-clause-in_part
returns-in-Ok-clause-in_part g c =
    whole_in_part (on_cluster g.K.Keeper.TELLS g.K.Keeper.state g.J.Sharing.making g.J.Logs.log) _ _ _ _ _ c.in-Ok.ensures.ok

pub returns-in-Err-clause-known : goal.returns-in-Err-clause-known
returns-in-Err-clause-known g c = subst IsTalkStatus (sym c.code.ensures) (known_status c.in-Err.interrupt)
