use Rattle.std.proofs.Common.{refl}
use Rattle.plain_graph.proofs.LastObject.{object_found}
use Rattle.plain_graph.proofs.objects.object_after.Goals as goal

pub returns-in-Some : goal.returns-in-Some
returns-in-Some c = rw (← object_found c.args.changes.now, ← c.in-Some.ensures) c.object_left.ensures

pub returns-in-None : goal.returns-in-None
returns-in-None c = rw (← object_found c.args.changes.now, ← c.in-None.ensures) refl
