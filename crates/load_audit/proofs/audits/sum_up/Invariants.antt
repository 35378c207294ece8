use Rattle.std.proofs.Common.{List}
use Rattle.graph_model.specs.Told.{WhereTold}
use Rattle.keepers.specs.Shown.{told_in}
use Rattle.request_check.specs.declared.checked.CheckedWrite.{CheckedWrite}
use Rattle.load_audit.specs.Kept.{AreAudited, keepers_in}
use Rattle.load_audit.proofs.AuditLemmas.{IsSoFar}
use Rattle.load_audit.proofs.audits.sum_up.Given as goal

abbrev pub invariant-loop-shard : goal.invariant-loop-shard
invariant-loop-shard g l = (writes : List CheckedWrite) → AreAudited g.M.Keeper.TELLS g.M.Keeper.state writes l.all
    → WhereTold g.M.Keeper.TELLS (IsSoFar l.config (told_in g.M.Keeper.state l.config.shards (keepers_in l.all)) writes l.shard l.tally)
