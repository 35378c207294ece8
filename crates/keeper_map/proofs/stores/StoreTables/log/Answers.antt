use Rattle.std.proofs.Common.{subst, sym}
use Rattle.graph_model.specs.Soundness.{IsSound}
use Rattle.keeper_map.proofs.stores.StoreTables.log.Goals as goal

pub returns-in-Some-clause-sound : goal.returns-in-Some-clause-sound
returns-in-Some-clause-sound c = rw c.log.ensures c.in-Some.table.now.sound

pub returns-in-None-clause-sound : goal.returns-in-None-clause-sound
returns-in-None-clause-sound c = subst IsSound (sym c.args.self.now.empty_is) (λ n e h. absurd (cc))
