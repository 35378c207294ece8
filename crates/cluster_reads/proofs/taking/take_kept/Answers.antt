use Rattle.cluster_reads.proofs.TakenSteps.{keep_refused, kept_ends, kept_steps, unkept_steps}
use Rattle.cluster_reads.proofs.taking.take_kept.Goals as goal

pub returns-in-Ok : goal.returns-in-Ok
returns-in-Ok g c = record {
  steps = kept_steps g.J.Sharing.making g.J.Logs.log g.begun c.args.read.now.seen c.args.read.now.plan c.take.new.self c.args.version c.in-Ok.found
      c.requires.1.0 (rw c.in-Ok.is at c.requires.1.1.0) (rw c.in-Ok.is at c.requires.1.1.1.0) c.take.ensures;
  refused = kept_ends c.args.read.now.plan c.take.new.self c.args.version c.in-Ok.found c.requires.1.0.at_is c.take.ensures;
}

pub returns-in-Err : goal.returns-in-Err
returns-in-Err g c = record {
  steps = unkept_steps g.J.Sharing.making g.J.Logs.log g.begun c.args.read.now.seen c.args.read.now.plan c.take-in-Err.new.self c.args.version c.in-Err.reply
      c.requires.1.0 c.take-in-Err.ensures;
  refused = keep_refused c.args.read.now.plan c.take-in-Err.new.self c.in-Err.reply c.take-in-Err.ensures (rw c.in-Err.is at c.requires.1.1.1.1);
}
