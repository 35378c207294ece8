use Rattle.cluster_reads.proofs.reads.look_past.Given as goal

abbrev pub ghost-take_ask : goal.ghost-take_ask
ghost-take_ask g a = g.begun
