use Rattle.cluster_reads.proofs.TakenSteps.{look_ends, look_steps}
use Rattle.cluster_reads.proofs.taking.take_found.Goals as goal

pub returns : goal.returns
returns g c = record {
  steps = look_steps g.J.Sharing.making g.J.Logs.log g.begun c.args.read.now.seen c.meet.new.self c.args.read.now.plan c.set_ask.new.self c.take.new.self
      c.args.found c.requires.1.0 c.requires.1.1.1.0 c.meet.ensures.grows c.meet.ensures.grows_from_other c.requires.1.1.1.1.1 c.set_ask.ensures
      c.take.ensures;
  refused = look_ends c.set_ask.new.self c.take.new.self c.args.found.look c.take.ensures;
}
