use Rattle.locked_nodes.specs.Begun.{begun}
use Rattle.cluster_reads.proofs.reads.read.Given as goal

abbrev pub ghost-run_read : goal.ghost-run_read
ghost-run_read g a = begun a.read.seen (g.L.Link.shown a.link.now)
