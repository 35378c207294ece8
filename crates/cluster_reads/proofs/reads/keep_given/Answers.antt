use Rattle.cluster_reads.proofs.TakenSteps.{steps_handed}
use Rattle.cluster_reads.proofs.reads.keep_given.Goals as goal

pub returns : goal.returns
returns g c = record {
  steps = steps_handed g.J.Sharing.making g.J.Logs.log g.begun c.take_kept.new.read.seen c.args.read.now.plan c.fill.new.self c.take_kept.new.read.plan
      c.in-Some.ensures.handed c.take_kept.ensures.steps;
  refused = c.take_kept.ensures.refused;
}
