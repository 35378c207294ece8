use Rattle.cluster_reads.proofs.reads.step.Given as goal

abbrev pub ghost-look_stage : goal.ghost-look_stage
ghost-look_stage g a = g.begun

abbrev pub ghost-ask_stage : goal.ghost-ask_stage
ghost-ask_stage g a = g.begun

abbrev pub ghost-master_stage : goal.ghost-master_stage
ghost-master_stage g a = g.begun

abbrev pub ghost-keep_stage : goal.ghost-keep_stage
ghost-keep_stage g a = g.begun
