use Rattle.std.proofs.Common.{◌<◌, subst}
use Rattle.cluster_writes.proofs.StageLemmas.{IsOwedAt, done_by, owed_there}
use Rattle.locked_nodes.specs.Cluster.{on_cluster}
use Rattle.shared_stores.specs.Asked.{lent_owed}
use Rattle.topology.specs.Config.{Settings}
use Rattle.cluster_writes.proofs.merging.end_there.Goals as goal

pub end-requires-clause-owed : goal.end-requires-clause-owed
end-requires-clause-owed g c =
    let on = on_cluster g.K.Keeper.TELLS g.K.Keeper.state g.J.Sharing.making g.J.Logs.log in
    let at : IsOwedAt on c.args.plan.now c.in-Some.owed.job.now c.in-Some.owed.entry.now (lent_owed c.in-Some.owed) =
    record {
      job_is = c.in-Some.ensures.job;
      entry_is = c.in-Some.ensures.entry;
      owed_is = c.in-Some.ensures.owed;
      away = c.in-Some.ensures.away;
      there = subst (λ (s : Settings). c.in-Some.owed.to < s.shards) c.config.ensures c.in-Some.ensures.there;
    } in
    owed_there on c.args.plan.now c.args.seen.now c.in-Some.owed.job.now c.in-Some.owed.entry.now (lent_owed c.in-Some.owed) at c.requires.owes

pub end-requires-clause-done : goal.end-requires-clause-done
end-requires-clause-done g c =
    let on = on_cluster g.K.Keeper.TELLS g.K.Keeper.state g.J.Sharing.making g.J.Logs.log in
    let at : IsOwedAt on c.args.plan.now c.in-Some.owed.job.now c.in-Some.owed.entry.now (lent_owed c.in-Some.owed) =
    record {
      job_is = c.in-Some.ensures.job;
      entry_is = c.in-Some.ensures.entry;
      owed_is = c.in-Some.ensures.owed;
      away = c.in-Some.ensures.away;
      there = subst (λ (s : Settings). c.in-Some.owed.to < s.shards) c.config.ensures c.in-Some.ensures.there;
    } in
    done_by on c.args.plan.now c.in-Some.owed.job.now c.in-Some.owed.entry.now (lent_owed c.in-Some.owed) c.args.done at c.requires.done
