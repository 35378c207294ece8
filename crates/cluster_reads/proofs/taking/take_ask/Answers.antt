use Rattle.std.proofs.Common.{Ok, ap, ◌∙◌, false}
use Rattle.cache_items.specs.declared.look.Look.TheVariants.{Miss}
use Rattle.read_plan.specs.Readings.{Reading, taken}
use Rattle.read_plan.specs.declared.stages.ReadResult.TheVariants as came
use Rattle.cluster_reads.proofs.TakenSteps.{critical_steps, look_ends}
use Rattle.cluster_reads.proofs.taking.take_ask.Goals as goal

pub returns : goal.returns
returns g c = record {
  steps = critical_steps g.J.Sharing.making g.J.Logs.log g.begun c.args.read.now.seen c.args.read.now.plan c.take.new.self c.args.ask c.requires.1.0
      c.requires.1.1.1 (c.take.ensures ∙ ap (λ (q : Reading). taken (came.Look (Ok Miss)) 0 false q)
      {y = record c.args.read.now.plan { ask = c.args.ask }} c.set_ask.ensures);
  refused = look_ends c.set_ask.new.self c.take.new.self Miss c.take.ensures;
}
