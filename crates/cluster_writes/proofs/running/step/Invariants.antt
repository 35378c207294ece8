use Rattle.cluster_writes.proofs.running.step.Given as goal

abbrev pub ghost-commit_stage : goal.ghost-commit_stage
ghost-commit_stage g a = g.begun

abbrev pub ghost-inverse_stage : goal.ghost-inverse_stage
ghost-inverse_stage g a = g.begun

abbrev pub ghost-relay_stage : goal.ghost-relay_stage
ghost-relay_stage g a = g.begun

abbrev pub ghost-apply_stage : goal.ghost-apply_stage
ghost-apply_stage g a = g.begun
