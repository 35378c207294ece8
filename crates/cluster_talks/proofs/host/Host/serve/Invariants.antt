use Rattle.std.proofs.Common.{◌≤◌, ◌^◌}
use Rattle.cluster_talks.specs.TalkStates.{MayTalk, talk_state}
use Rattle.cluster_talks.specs.Talked.{Talked, wire}
use Rattle.cluster_talks.proofs.host.Host.serve.Given as goal
use Rattle.first_line.specs.Interrupts.{FaultsGrow, faults}
use Rattle.shared_tiers.specs.Calls.{calling}
use Rattle.shared_tiers.specs.locked_nodes.Cluster.{on_cluster}
use Rattle.tao_io.specs.LineReader.{may_give, to_come}
use Rattle.tao_io.specs.Lines.{CountsTaken}

abbrev pub invariant-lines : goal.invariant-lines
invariant-lines g l =
    let left = g.R.Source.left in
    let taken = g.S.Sink.taken in
    let shown = g.L.Link.shown in
    let on = on_cluster g.K.Keeper.TELLS g.K.Keeper.state g.J.Sharing.making g.J.Logs.log in
    let now = talk_state l.listener.opened (calling l.pass (shown l.link)) in
    record {
      talked : Talked on (talk_state l.fn.listener.opened (calling l.fn.pass (shown l.fn.link))) now
          (wire (to_come l.fn.listener.reader (left l.fn.input)) (taken l.fn.output)) (wire (to_come l.listener.reader (left l.input)) (taken l.output));
      may : MayTalk g.J.Sharing.making g.J.Logs.log now;
      counted : CountsTaken (left l.fn.input) (left l.input) l.fn.listener.reader.taken l.listener.reader.taken;
      limited : l.fn.listener.reader.taken ≤ 2 ^ 40 → l.listener.reader.taken ≤ 2 ^ 40;
      later : FaultsGrow (faults (g.R.Source.faults l.fn.input) (g.S.Sink.faults l.fn.output)) (faults (g.R.Source.faults l.input) (g.S.Sink.faults l.output));
    }

abbrev pub decreases-lines : goal.decreases-lines
decreases-lines g l = may_give l.listener.reader
