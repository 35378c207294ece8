use Rattle.cluster_reads.proofs.reads.ask_stage.Given as goal

abbrev pub ghost-take_asked : goal.ghost-take_asked
ghost-take_asked g a = g.begun
