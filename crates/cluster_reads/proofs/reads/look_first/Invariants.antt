use Rattle.cluster_reads.proofs.reads.look_first.Given as goal

abbrev pub ghost-take_look : goal.ghost-take_look
ghost-take_look g a = g.begun
