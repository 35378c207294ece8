use Rattle.cluster_reads.proofs.taking.take_look.Given as goal

abbrev pub ghost-take_found : goal.ghost-take_found
ghost-take_found g a = g.begun
