use Rattle.read_batch.proofs.Stepping.{ends_done, goes_step, may_before, may_done, when_ready}
use Rattle.read_batch.proofs.batch.BatchFuture.poll.Goals as goal

pub returns-in-Pending-clause-same : goal.returns-in-Pending-clause-same
returns-in-Pending-clause-same g c = λ given may. may_before _ _ _ given c.poll_step.ensures.steps may

pub returns-in-Pending-clause-on : goal.returns-in-Pending-clause-on
returns-in-Pending-clause-on g c = goes_step _ _ _ c.poll_step.ensures.steps

pub returns-in-Ready-clause-value : goal.returns-in-Ready-clause-value
returns-in-Ready-clause-value g c =
    may_done _ _ _ _ c.poll_step.ensures.steps (when_ready _ _ _ c.in-Ready.is c.poll_step.ensures.done) c.taken.ensures

pub returns-in-Ready-clause-ends : goal.returns-in-Ready-clause-ends
returns-in-Ready-clause-ends g c =
    ends_done _ _ _ _ c.poll_step.ensures.steps (when_ready _ _ _ c.in-Ready.is c.poll_step.ensures.done) c.taken.ensures

pub returns-in-Ready-clause-on : goal.returns-in-Ready-clause-on
returns-in-Ready-clause-on g c = goes_step _ _ _ c.poll_step.ensures.steps
