use Rattle.std.proofs.Common.{length}
use Rattle.load_audit.proofs.Meeting.{MetFrom}
use Rattle.load_audit.specs.LiveEdges.{records_of}
use Rattle.load_audit.proofs.live.LiveCount.meet_log.Given as goal

abbrev pub invariant-entries : goal.invariant-entries
invariant-entries l = MetFrom records_of l.fn.log l.left l.fn.self l.self

abbrev pub decreases-entries : goal.decreases-entries
decreases-entries l = length l.left
