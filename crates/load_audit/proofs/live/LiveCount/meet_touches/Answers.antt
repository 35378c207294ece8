use Rattle.std.proofs.Common.{List, [], ◌∷◌}
use Rattle.std.specs.Prelude.{filter_map}
use Rattle.graph_model.specs.Soundness.{update_at}
use Rattle.tao_base.specs.declared.entry.Touch.{Touch}
use Rattle.load_audit.proofs.Meeting.{all_of, last_split, none_left, one_before, one_more}
use Rattle.load_audit.proofs.live.LiveCount.meet_touches.Goals as goal

pub touches-preserved : goal.touches-preserved
touches-preserved c =
    one_more (λ (t : Touch). filter_map (λ (t : Touch). update_at t.key t.change) (t ∷ []))
    (λ (ts : List Touch). filter_map (λ (t : Touch). update_at t.key t.change) ts) one_before c.args.touches.now c.touches.left.now _
    c.touch-item.result c.args.self.now c.touches.self c.meet_touch.new.self
    (last_split c.touches.left.now c.touch-item.result c.in-len1-up.len_at_least c.touch-item.is)
    c.touches.invariant c.in_ok-meet_touch.ensures

pub returns : goal.returns
returns c =
    all_of (λ (ts : List Touch). filter_map (λ (t : Touch). update_at t.key t.change) ts) c.args.touches.now c.touches.left.now
    c.args.self.now c.touches.self (none_left c.touches.left.now c.in_default.len_below) c.touches.invariant
