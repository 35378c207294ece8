use Rattle.cluster_writes.specs.Open.{opening}
use Rattle.cluster_writes.proofs.writes.write.Given as goal

abbrev pub ghost-run_write : goal.ghost-run_write
ghost-run_write g a = opening a.write.seen a.pass.now.notes (g.L.Link.shown a.link.now)
