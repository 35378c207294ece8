use Rattle.std.proofs.Common.{◌<◌, subst}
use Rattle.cluster_writes.proofs.StageLemmas.{IsOwedAt, owed_there}
use Rattle.locked_nodes.specs.Cluster.{on_cluster}
use Rattle.shared_stores.specs.Asked.{lent_owed}
use Rattle.topology.specs.Config.{Settings}
use Rattle.cluster_writes.proofs.merging.merge_over.Goals as goal

pub merge_there-merged-requires-clause-owed : goal.merge_there-merged-requires-clause-owed
merge_there-merged-requires-clause-owed g c =
    let on = on_cluster g.K.Keeper.TELLS g.K.Keeper.state g.J.Sharing.making g.J.Logs.log in
    let at : IsOwedAt on c.args.plan.now c.in-Some.owed.job.now c.in-Some.owed.entry.now (lent_owed c.in-Some.owed) =
    record {
      job_is = c.in-Some.ensures.job;
      entry_is = c.in-Some.ensures.entry;
      owed_is = c.in-Some.ensures.owed;
      away = c.in-Some.ensures.away;
      there = subst (λ (s : Settings). c.in-Some.owed.to < s.shards) c.config.ensures c.in-Some.ensures.there;
    } in
    owed_there on c.args.plan.now c.args.seen.now c.in-Some.owed.job.now c.in-Some.owed.entry.now (lent_owed c.in-Some.owed) at c.requires.owes
