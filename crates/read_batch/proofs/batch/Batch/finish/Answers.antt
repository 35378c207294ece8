use Rattle.std.proofs.Common.{◌∙◌}
use Rattle.read_batch.proofs.Stepping.{follows_step}
use Rattle.read_batch.proofs.batch.Batch.finish.Goals as goal

pub loop-self-preserved : goal.loop-self-preserved
loop-self-preserved g c = record {
  keeps = c.step.ensures.keeps;
  follows = follows_step _ _ _ _ c.loop-self.invariant.follows c.step.ensures.steps;
  same_pass = c.step.ensures.same_pass ∙ c.loop-self.invariant.same_pass;
  same_link = c.step.ensures.same_link ∙ c.loop-self.invariant.same_link;
}
