use Rattle.std.proofs.Common.{arith}
use Rattle.std.proofs.lemmas.List.Sums.{count_by-le-length}
use Rattle.graph_model.specs.Log.{is_addition}
use Rattle.keeper_map.proofs.map.MapKeeperKeeper.last_serial.Goals as goal

pub returns-clause-small : goal.returns-clause-small
returns-clause-small c = rw c.added.ensures (omega (arith, count_by-le-length (λ e. is_addition e.kind) c.log.result.now))
