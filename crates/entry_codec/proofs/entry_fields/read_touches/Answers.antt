use Rattle.std.proofs.Common.{◌≡◌, [], Ok, subst}
use Rattle.std.proofs.lemmas.Result.{err_from_is_err_and}
use Rattle.entry_codec.specs.Reading.{spelled_touch, spelled_touches}
use Rattle.entry_codec.specs.Gives.{IsRefused}
use Rattle.entry_codec.proofs.Loops.{touch_more, touch_refused}
use Rattle.entry_codec.proofs.entry_fields.read_touches.Goals as goal

pub returns-in_err-touch : goal.returns-in_err-touch
returns-in_err-touch c =
    let p = err_from_is_err_and c.from_residual.result c.from_residual.ensures.1 in
    rw (p.1, p.2) (touch_refused c.in_err-touch.field-0.0 c.args.count c.loop.counter c.loop.touches.items c.loop.reader
    (spelled_touches c.args.count [] c.args.reader.now) c.loop-test.true
    (subst (λ earlier. IsRefused c.in_err-touch.field-0.0 (spelled_touch earlier c.loop.reader)) c.deref.ensures.value c.in_err-touch.ensures) c.loop.invariant)

pub loop-preserved : goal.loop-preserved
loop-preserved c = touch_more c.args.count c.loop.counter c.loop.touches.items c.push.new.self.items c.in_ok-touch.touch c.loop.reader c.read_touch.new.reader
    (spelled_touches c.args.count [] c.args.reader.now) c.loop-test.true
    (subst (λ earlier. spelled_touch earlier c.loop.reader ≡ Ok (c.in_ok-touch.touch, c.read_touch.new.reader)) c.deref.ensures.value c.in_ok-touch.ensures)
    c.loop.invariant c.in_ok-push.ensures.items
