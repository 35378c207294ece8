use Rattle.std.proofs.Common.{subst}
use Rattle.graph_model.specs.Soundness.{IsSound}
use Rattle.graph_model.specs.Told.{WhereTold}
use Rattle.shard_log.proofs.pen.Pen.len.Goals as goal

pub returns-clause-sound : goal.returns-clause-sound
returns-clause-sound c = subst (λ v. WhereTold v.log.told (IsSound v.entries)) c.self.view_is c.self.invariant.seated.log.sound
