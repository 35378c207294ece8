use Rattle.cluster_reads.proofs.reads.master_stage.Given as goal

abbrev pub ghost-take_out : goal.ghost-take_out
ghost-take_out g a = g.begun

abbrev pub ghost-read_right : goal.ghost-read_right
ghost-read_right g a = g.begun
