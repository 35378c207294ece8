use Rattle.std.proofs.Common.{◌≤◌, length}
use Rattle.std.specs.Io.KnownBytes.{Appends}
use Rattle.core_nodes.specs.Outside.{outside}
use Rattle.tao_top.specs.Kept.{LeavesTables, MayServe}
use Rattle.tao_top.specs.Making.{CountsCalls, Made, way_of}
use Rattle.tao_top.specs.Served.{serves}
use Rattle.tao_top.proofs.making.Making.make_all.Given as goal

abbrev pub invariant-requests : goal.invariant-requests
invariant-requests g l =
    let taken = g.S.Sink.taken in
    let keepers = g.K.Keeper.state in
    let shown = g.L.Link.shown in
    record {
      made : Made g.K.Keeper.TELLS (serves l.fn.serving (outside (keepers l.fn.keepers) (shown l.fn.link)))
          (serves l.serving (outside (keepers l.keepers) (shown l.link))) (way_of l.fn.self) (way_of l.self) (Appends (taken l.fn.output) (taken l.output));
      serving : MayServe g.K.Keeper.TELLS l.serving (g.K.Keeper.state l.keepers).told;
      counts : CountsCalls (way_of l.self);
      tables : LeavesTables g.K.Keeper.TELLS (keepers l.fn.keepers) (keepers l.keepers);
      later : g.S.Sink.faults l.fn.output ≤ g.S.Sink.faults l.output;
    }

abbrev pub decreases-requests : goal.decreases-requests
decreases-requests g l = length l.self.workload
