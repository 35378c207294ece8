use Rattle.tao_base.proofs.IdSets.{rising_set, same_members}
use Rattle.tao_base.proofs.query.IdSet.of.Goals as goal

pub invariant_of-result : goal.invariant_of-result
invariant_of-result c = rising_set _ _ c.sort_unstable.ensures.sorted c.dedup.ensures.filtered

pub returns-clause-rising : goal.returns-clause-rising
returns-clause-rising c = rising_set _ _ c.sort_unstable.ensures.sorted c.dedup.ensures.filtered

pub returns-clause-members : goal.returns-clause-members
returns-clause-members c = same_members _ _ _ c.sort_unstable.ensures.permutation c.dedup.ensures.filtered
