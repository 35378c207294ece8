use Rattle.std.proofs.Common.{ap, sym, ◌+◌}
use Rattle.load_audit.proofs.Meeting.{touch_met}
use Rattle.load_audit.proofs.live.LiveCount.meet_touch.Goals as goal

pub returns-in_ok-is_first-in-Some : goal.returns-in_ok-is_first-in-Some
returns-in_ok-is_first-in-Some c =
    touch_met c.args.touch.now c.in-Some.edge c.in-Some.is_live c.in_ok-is_first-in-Some.is_first c.args.self.now _ (sym c.in-Some.ensures)
    (record {
      first = c.in_ok-is_first-in-Some.ensures.first;
      after = c.in_ok-is_first-in-Some.ensures.after;
      live = ap (λ n. c.args.self.now.live + n) c.counted.ensures;
    })
