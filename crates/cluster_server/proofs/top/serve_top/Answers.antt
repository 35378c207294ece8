use Rattle.std.proofs.Common.{subst, sym}
use Rattle.cluster_server.proofs.StatusLemmas.{interrupt_known, known_when}
use Rattle.cluster_server.proofs.top.serve_top.Goals as goal
use Rattle.cluster_server.specs.Statuses.{IsServerStatus}

pub returns-in-Ok-clause-known : goal.returns-in-Ok-clause-known
returns-in-Ok-clause-known g c = known_when c.go-status.result.status c.in-Ok.status _ _ _ _ c.in-Ok.is c.go-status.ensures.ends

pub returns-in-Err-Interrupted-clause-known : goal.returns-in-Err-Interrupted-clause-known
returns-in-Err-Interrupted-clause-known g c = subst IsServerStatus (sym c.code.ensures) (interrupt_known c.in-Err-Interrupted.interrupt)
