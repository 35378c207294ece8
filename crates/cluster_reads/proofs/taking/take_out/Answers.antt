use Rattle.cluster_reads.proofs.TakenSteps.{out_ends, out_steps}
use Rattle.cluster_reads.proofs.taking.take_out.Goals as goal

pub returns-in-Ok : goal.returns-in-Ok
returns-in-Ok g c = record {
  steps = out_steps g.J.Sharing.making g.J.Logs.log g.begun c.args.read.now.seen c.args.read.now.plan c.take.new.self c.in-Ok.mastered.out c.args.hops
      c.in-Ok.mastered.store c.requires.1.0 (rw c.in-Ok.is at c.requires.1.1.1.0) (rw c.in-Ok.is at c.requires.1.1.1.1) c.take.ensures;
  after = rw c.in-Ok.is (out_ends c.args.read.now.plan c.take.new.self c.in-Ok.mastered.out c.args.hops c.in-Ok.mastered.store c.take.ensures);
}
