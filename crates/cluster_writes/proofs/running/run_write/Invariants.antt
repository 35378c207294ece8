use Rattle.std.proofs.Common.{◌≡◌}
use Rattle.cluster_writes.specs.Open.{IsUnderWay, call_planned}
use Rattle.locked_nodes.specs.Cluster.{on_cluster}
use Rattle.cluster_writes.proofs.running.run_write.Given as goal

abbrev pub ghost-step : goal.ghost-step
ghost-step g a = g.begun

-- the stages so far
abbrev pub invariant-loop : goal.invariant-loop
invariant-loop g l = record {
  under : IsUnderWay (on_cluster g.K.Keeper.TELLS g.K.Keeper.state g.J.Sharing.making g.J.Logs.log) g.begun (call_planned l.fn.write.plan)
      (g.L.Link.shown l.link) l.write;
  pass : l.pass ≡ l.fn.pass;
}
