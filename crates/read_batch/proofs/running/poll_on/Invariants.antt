use Rattle.std.proofs.Common.{◌≡◌}
use Rattle.shared_tiers.specs.locked_nodes.Cluster.{on_cluster}
use Rattle.read_batch.specs.UnderWay.{Follows, IsUnderWay, under_way}
use Rattle.read_batch.proofs.running.poll_on.Given as goal

-- the calls so far were made, and the batch goes on
abbrev pub invariant-loop : goal.invariant-loop
invariant-loop g l = record {
  goes_on : (goal.iterator-loop g).can_next l.iterator' × (goal.iterator-loop g).is_finite l.iterator';
  keeps : IsUnderWay g.J.Sharing.making g.J.Logs.log (under_way g.L.Link.shown l.batch);
  follows : Follows (on_cluster g.K.Keeper.TELLS g.K.Keeper.state g.J.Sharing.making g.J.Logs.log) (under_way g.L.Link.shown l.initial.batch)
      (under_way g.L.Link.shown l.batch);
  same_pass : l.batch.pass.ghost_name ≡ l.initial.batch.pass.ghost_name;
  same_link : l.batch.link.ghost_name ≡ l.initial.batch.link.ghost_name;
}
