use Rattle.cluster_reads.proofs.TakenSteps.{ask_ends, ask_steps}
use Rattle.cluster_reads.proofs.taking.take_asked.Goals as goal

pub returns-in-Ok : goal.returns-in-Ok
returns-in-Ok g c = record {
  steps = ask_steps g.J.Sharing.making g.J.Logs.log g.begun c.args.read.now.seen c.args.read.now.plan c.take.new.self c.in-Ok.came.given c.args.hops
      c.in-Ok.came.store c.requires.1.0 c.requires.1.1.0 (rw c.in-Ok.is at c.requires.1.1.1.0) (rw c.in-Ok.is at c.requires.1.1.1.1) c.take.ensures;
  after = rw c.in-Ok.is (ask_ends c.args.read.now.plan c.take.new.self c.in-Ok.came.given c.args.hops c.in-Ok.came.store c.take.ensures);
}
