use Rattle.std.proofs.Common.{◌∙◌}
use Rattle.read_batch.proofs.Stepping.{follows_step}
use Rattle.read_batch.proofs.running.poll_on.Goals as goal

pub returns-in-Ready-clause-follows : goal.returns-in-Ready-clause-follows
returns-in-Ready-clause-follows g c = follows_step _ _ _ _ c.loop.invariant.follows c.poll_step-polled.ensures.steps

pub loop-preserved : goal.loop-preserved
loop-preserved g c = record {
  goes_on = (tt, tt);
  keeps = c.poll_step-polled.ensures.keeps;
  follows = follows_step _ _ _ _ c.loop.invariant.follows c.poll_step-polled.ensures.steps;
  same_pass = c.poll_step-polled.ensures.same_pass ∙ c.loop.invariant.same_pass;
  same_link = c.poll_step-polled.ensures.same_link ∙ c.loop.invariant.same_link;
}
