use Rattle.write_touches.proofs.More.{more}
use Rattle.write_touches.proofs.near_ends.near_ends.Goals as goal

pub loop-update-preserved : goal.loop-update-preserved
loop-update-preserved c =
    more _ c.args.updates.now c.loop-update.update-index c.update-item.result _ _ c.loop-update-test.true c.update-item.is c.loop-update.invariant
    c.in_ok-add_near_end.ensures
