use Rattle.cluster_reads.proofs.reads.look_stage.Given as goal

abbrev pub ghost-look_past : goal.ghost-look_past
ghost-look_past g a = g.begun

abbrev pub ghost-look_first : goal.ghost-look_first
ghost-look_first g a = g.begun
