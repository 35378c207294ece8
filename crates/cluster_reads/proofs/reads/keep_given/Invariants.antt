use Rattle.cluster_reads.proofs.reads.keep_given.Given as goal

abbrev pub ghost-take_kept : goal.ghost-take_kept
ghost-take_kept g a = g.begun
