use Rattle.std.proofs.Common.{◌≤◌, ◌^◌}
use Rattle.tao_io.specs.LineReader.{may_give, to_come}
use Rattle.tao_io.specs.Lines.{CountsTaken}
use Rattle.first_line.specs.Interrupts.{FaultsGrow, faults}
use Rattle.tao_top.specs.Kept.{LeavesTables, MayServe}
use Rattle.core_nodes.specs.Outside.{outside}
use Rattle.tao_top.specs.Served.{Served, serves, streams}
use Rattle.tao_top.proofs.serve.serve.Given as goal

abbrev pub invariant-lines : goal.invariant-lines
invariant-lines g l =
    let left = g.R.Source.left in
    let taken = g.S.Sink.taken in
    let keepers = g.K.Keeper.state in
    let shown = g.L.Link.shown in
    record {
      served : Served g.K.Keeper.TELLS (serves l.fn.serving (outside (keepers l.fn.keepers) (shown l.fn.link)))
          (serves l.serving (outside (keepers l.keepers) (shown l.link))) (streams (to_come l.fn.reader (left l.fn.input)) (taken l.fn.output))
          (streams (to_come l.reader (left l.input)) (taken l.output));
      serving : MayServe g.K.Keeper.TELLS l.serving (g.K.Keeper.state l.keepers).told;
      counted : CountsTaken (left l.fn.input) (left l.input) l.fn.reader.taken l.reader.taken;
      limited : l.fn.reader.taken ≤ 2 ^ 40 → l.reader.taken ≤ 2 ^ 40;
      tables : LeavesTables g.K.Keeper.TELLS (keepers l.fn.keepers) (keepers l.keepers);
      later : FaultsGrow (faults (g.R.Source.faults l.fn.input) (g.S.Sink.faults l.fn.output)) (faults (g.R.Source.faults l.input) (g.S.Sink.faults l.output));
    }

abbrev pub decreases-lines : goal.decreases-lines
decreases-lines g l = may_give l.reader
