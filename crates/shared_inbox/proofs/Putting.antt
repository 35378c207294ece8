-- A message of its shard's log that comes behind such messages leaves them so.
use Rattle.std.proofs.Common.{List, [], ◌∷◌, ◌++◌}
use Rattle.log_names.specs.Names.{LogNames}
use Rattle.maint_msg.specs.Maints.{SeenMaint}
use Rattle.shared_inbox.specs.Messages.{AreMaintsOf, IsMaintOf}

pub one_more : (log : LogNames) (ms : List SeenMaint) (m : SeenMaint) → AreMaintsOf log ms → IsMaintOf log m → AreMaintsOf log (ms ++ m ∷ [])
one_more log [] m each one = (one, tt)
one_more log (x ∷ ms) m each one = (each.0, one_more log ms m each.1 one)
