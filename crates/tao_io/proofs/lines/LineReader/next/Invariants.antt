use Rattle.std.proofs.Common.{◌+◌, ◌≤◌, vec_len}
use Rattle.tao_io.specs.LineReader.{to_come, may_give}
use Rattle.tao_io.specs.Lines.{line_limit, CountsTaken}
use Rattle.tao_io.proofs.Reading.{Reading}
use Rattle.tao_io.proofs.lines.LineReader.next.Given as goal

abbrev pub invariant-chunks : goal.invariant-chunks
invariant-chunks g l =
    let left = g.R.Source.left in
    let faults = g.R.Source.faults in
    record {
      reading : Reading (to_come l.initial.self (left l.initial.source)) (to_come l.self (left l.source)) l.line.items (may_give l.initial.self)
          (may_give l.self);
      bounded : vec_len l.line ≤ line_limit + 1;
      counted : CountsTaken (left l.initial.source) (left l.source) l.initial.self.taken l.self.taken;
      later : faults l.initial.source ≤ faults l.source;
    }

abbrev pub decreases-chunks : goal.decreases-chunks
decreases-chunks g l = may_give l.self
