use Rattle.std.proofs.Common.{take}
use Rattle.tao_busy.specs.Counting.{AreWell}
use Rattle.tao_busy.proofs.meeting.is_any_short.Given as goal

abbrev pub invariant-loop-share : goal.invariant-loop-share
invariant-loop-share l = AreWell (take l.share-index l.shares)
