use Rattle.cluster_reads.proofs.reads.keep_stage.Given as goal

abbrev pub ghost-keep_given : goal.ghost-keep_given
ghost-keep_given g a = g.begun

abbrev pub ghost-take_past : goal.ghost-take_past
ghost-take_past g a = g.begun
