use Rattle.std.proofs.Common.{◌≡◌, ◌≤◌}
use Rattle.work_server.specs.Serving.{AddUp}
use Rattle.work_server.proofs.serving.serve_work.Given as goal

-- the acceptor wasn't at its end, and the connections that were given add up
abbrev pub invariant-loop : goal.invariant-loop
invariant-loop g l = record {
  goes_on : (goal.iterator-loop g).can_next l.iterator' × (goal.iterator-loop g).is_finite l.iterator';
  ends : g.A.Acceptor.ends l.acceptor ≡ g.A.Acceptor.ends l.fn.acceptor;
  later : g.A.Acceptor.faults l.fn.acceptor ≤ g.A.Acceptor.faults l.acceptor;
  sum : AddUp (g.A.Acceptor.given l.fn.acceptor) (g.A.Acceptor.given l.acceptor) (g.S.Spawner.started l.fn.spawner) (g.S.Spawner.started l.spawner)
      (g.S.Spawner.faults l.fn.spawner) (g.S.Spawner.faults l.spawner);
}
