use Rattle.std.proofs.Common.{length}
use Rattle.std.specs.Prelude.{filter_map}
use Rattle.graph_model.specs.Soundness.{update_at}
use Rattle.tao_base.specs.declared.entry.Touch.{Touch}
use Rattle.load_audit.proofs.Meeting.{MetFrom}
use Rattle.load_audit.proofs.live.LiveCount.meet_touches.Given as goal

abbrev pub invariant-touches : goal.invariant-touches
invariant-touches l = MetFrom (λ ts. filter_map (λ (t : Touch). update_at t.key t.change) ts) l.fn.touches l.left l.fn.self l.self

abbrev pub decreases-touches : goal.decreases-touches
decreases-touches l = length l.left
