use Rattle.std.proofs.Common.{◌≡◌, arith}
use Rattle.std.specs.Prelude.{◌-◌}
use Rattle.cluster_writes.proofs.StepLemmas.{counted_steps, relay_held, relay_committed, relay_steps, to_relay}
use Rattle.locked_nodes.specs.Cluster.{on_cluster}
use Rattle.cluster_writes.proofs.way_back.relay_stage.Goals as goal

pub relay_note_of-note-requires-clause-committed : goal.relay_note_of-note-requires-clause-committed
relay_note_of-note-requires-clause-committed g c =
    let on = on_cluster g.K.Keeper.TELLS g.K.Keeper.state g.J.Sharing.making g.J.Logs.log in
    relay_committed on c.args.write.now c.requires.1.1.1.1.1

pub relay_note_of-note-requires-clause-relay : goal.relay_note_of-note-requires-clause-relay
relay_note_of-note-requires-clause-relay g c =
    let on = on_cluster g.K.Keeper.TELLS g.K.Keeper.state g.J.Sharing.making g.J.Logs.log in
    relay_held on g.begun (g.L.Link.shown c.args.link.now).faults c.args.write.now c.requires.1.1.1.1.0 c.requires.1.1.1.1.1

pub relay_over-came-requires : goal.relay_over-came-requires
relay_over-came-requires g c =
    let on = on_cluster g.K.Keeper.TELLS g.K.Keeper.state g.J.Sharing.making g.J.Logs.log in
    let ready = to_relay on g.begun (g.L.Link.shown c.args.link.now).faults c.args.write.now c.relay_note_of-note.result c.relay_note_of-note.new.plan c.requires.1.1.1.1.0
    c.requires.1.1.1.1.1 c.relay_note_of-note.ensures.note c.relay_note_of-note.ensures.rest in
    record { committed = ready.committed; passes = ready.passes; passed = ready.passed; note = ready.noted }

pub returns : goal.returns
returns g c =
    let on = on_cluster g.K.Keeper.TELLS g.K.Keeper.state g.J.Sharing.making g.J.Logs.log in
    let old = g.L.Link.shown c.args.link.now in
    let new = g.L.Link.shown c.relay_over-came.new.link in
    let hops : c.saturating_sub-hops.result ≡ new.carries - old.carries =
    omega (arith, c.saturating_sub-hops.ensures, c.carries.ensures, c.carries-carries.ensures) in
    record {
      steps = counted_steps on g.begun new.faults c.saturating_sub-hops.result old.carries new.carries c.args.write.now
          (record { plan = c.take.new.self; seen = c.args.write.now.seen; done = c.args.write.now.done; far = c.args.write.now.far }) hops
          (relay_steps on g.begun old.faults new.faults c.args.write.now c.relay_over-came.result c.saturating_sub-hops.result c.relay_note_of-note.new.plan c.take.new.self
          c.requires.1.1.1.1.0 c.requires.1.1.1.1.1 c.relay_over-came.ensures.later c.relay_note_of-note.ensures.rest c.relay_over-came.ensures.failed c.take.ensures.next);
      later = c.relay_over-came.ensures.carries;
    }
