use Rattle.std.proofs.Common.{subst, sym}
use Rattle.load_top.proofs.EndingLemmas.{came_known, first_known}
use Rattle.load_top.specs.Statuses.{IsStatus}
use Rattle.load_top.proofs.top.load_top.Goals as goal

pub returns-in-Ok-clause-known : goal.returns-in-Ok-clause-known
returns-in-Ok-clause-known g c = subst IsStatus (sym c.code.ensures) (came_known c.in-Ok.field-0.came)

pub returns-in-Err-clause-known : goal.returns-in-Err-clause-known
returns-in-Err-clause-known g c = subst IsStatus (sym c.first_code.ensures) (first_known c.in-Err.stop)
