use Rattle.tao_base.specs.Spelling.{touch_bytes}
use Rattle.entry_codec.specs.Values.{TouchFits}
use Rattle.entry_codec.proofs.Sizes.{one_more}
use Rattle.entry_codec.proofs.writing.put_touches.Goals as goal

pub loop-touch-preserved : goal.loop-touch-preserved
loop-touch-preserved c = one_more touch_bytes TouchFits c.args.touches.now c.loop-touch.touch-index c.touch-item.result c.args.out.now.items
    c.loop-touch.out.items c.put_touch.new.out.items
    c.loop-touch-test.true c.touch-item.is c.loop-touch.invariant c.in_ok-put_touch.ensures.bytes c.in_ok-put_touch.ensures.fits
