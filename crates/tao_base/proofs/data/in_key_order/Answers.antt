use Rattle.tao_base.proofs.InOrder.{map_has_more}
use Rattle.tao_base.proofs.data.in_key_order.Goals as goal

pub loop-key-preserved : goal.loop-key-preserved
loop-key-preserved c = map_has_more _ _ c.loop-key.yielded c.in-Some.key c.in-Some.value c.loop-key.invariant c.in_ok-insert.ensures.entries

pub loop-key-preserved-in_ok-insert : goal.loop-key-preserved-in_ok-insert
loop-key-preserved-in_ok-insert c = map_has_more _ _ c.loop-key.yielded c.in-Some.key c.in-Some.value c.loop-key.invariant c.in_ok-insert.ensures.entries
