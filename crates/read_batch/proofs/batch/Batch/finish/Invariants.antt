use Rattle.std.proofs.Common.{◌≡◌, length}
use Rattle.shared_tiers.specs.locked_nodes.Cluster.{on_cluster}
use Rattle.read_batch.specs.UnderWay.{Follows, IsUnderWay, left, under_way}
use Rattle.read_batch.proofs.batch.Batch.finish.Given as goal

-- the calls so far were made, and the batch goes on
abbrev pub invariant-loop-self : goal.invariant-loop-self
invariant-loop-self g l = record {
  keeps : IsUnderWay g.J.Sharing.making g.J.Logs.log (under_way g.L.Link.shown l.self);
  follows : Follows (on_cluster g.K.Keeper.TELLS g.K.Keeper.state g.J.Sharing.making g.J.Logs.log) (under_way g.L.Link.shown l.initial.self)
      (under_way g.L.Link.shown l.self);
  same_pass : l.self.pass.ghost_name ≡ l.initial.self.pass.ghost_name;
  same_link : l.self.link.ghost_name ≡ l.initial.self.link.ghost_name;
}

-- one request less is left
abbrev pub decreases-loop-self : goal.decreases-loop-self
decreases-loop-self g l = length (left (under_way g.L.Link.shown l.self))
