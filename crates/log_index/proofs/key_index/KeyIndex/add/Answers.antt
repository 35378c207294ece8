use Rattle.log_index.proofs.KeyLemmas.{says_item}
use Rattle.log_index.proofs.key_index.KeyIndex.add.Goals as goal

pub loop-touch-preserved : goal.loop-touch-preserved
loop-touch-preserved c = λ touches says.
    says_item touches _ c.loop-touch.touch-index c.touch-item.result _ _ c.loop-touch-test.true c.touch-item.is c.in_ok-touch.ensures
    (c.loop-touch.invariant touches says)
