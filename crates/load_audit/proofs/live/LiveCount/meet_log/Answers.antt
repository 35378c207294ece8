use Rattle.std.proofs.Common.{refl}
use Rattle.graph_model.specs.Soundness.{updates_of}
use Rattle.load_audit.specs.LiveEdges.{records_of}
use Rattle.load_audit.proofs.Meeting.{all_of, last_split, none_left, one_more}
use Rattle.load_audit.proofs.live.LiveCount.meet_log.Goals as goal

pub entries-preserved : goal.entries-preserved
entries-preserved c =
    one_more updates_of records_of (λ e es. refl) c.args.log.now c.entries.left.now _ c.entry-item.result c.args.self.now c.entries.self
    c.meet_touches.new.self (last_split c.entries.left.now c.entry-item.result c.in-len1-up.len_at_least c.entry-item.is)
    c.entries.invariant (rw c.as_slice.ensures at c.in_ok-meet_touches.ensures)

pub returns : goal.returns
returns c =
    all_of records_of c.args.log.now c.entries.left.now c.args.self.now c.entries.self (none_left c.entries.left.now c.in_default.len_below)
    c.entries.invariant
