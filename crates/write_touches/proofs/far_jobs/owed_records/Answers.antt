use Rattle.write_touches.proofs.More.{more}
use Rattle.write_touches.proofs.far_jobs.owed_records.Goals as goal

pub loop-touch-preserved : goal.loop-touch-preserved
loop-touch-preserved c =
    more _ c.args.touches.now c.loop-touch.touch-index c.touch-item.result _ _ c.loop-touch-test.true c.touch-item.is c.loop-touch.invariant
    c.in_ok-add_owed.ensures
