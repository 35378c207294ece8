use Rattle.std.proofs.Common.{refl}
use Rattle.plain_graph.proofs.LastRecord.{record_found}
use Rattle.plain_graph.proofs.records.record_after.Goals as goal

pub returns-in-Some : goal.returns-in-Some
returns-in-Some c = rw (← record_found c.args.changes.now c.args.id2, ← c.in-Some.ensures) c.state_after.ensures

pub returns-in-None : goal.returns-in-None
returns-in-None c = rw (← record_found c.args.changes.now c.args.id2, ← c.in-None.ensures) refl
