use Rattle.std.proofs.Common.{◌≡◌, arith}
use Rattle.std.specs.Prelude.{◌-◌}
use Rattle.cluster_writes.proofs.StepLemmas.{counted_steps, spare_held, apply_committed, apply_steps, to_apply}
use Rattle.locked_nodes.specs.Cluster.{on_cluster}
use Rattle.cluster_writes.proofs.way_back.apply_stage.Goals as goal

pub spare_note_of-note-requires-clause-committed : goal.spare_note_of-note-requires-clause-committed
spare_note_of-note-requires-clause-committed g c =
    let on = on_cluster g.K.Keeper.TELLS g.K.Keeper.state g.J.Sharing.making g.J.Logs.log in
    apply_committed on c.args.write.now c.requires.1.1.1.1.1

pub spare_note_of-note-requires-clause-spare : goal.spare_note_of-note-requires-clause-spare
spare_note_of-note-requires-clause-spare g c =
    let on = on_cluster g.K.Keeper.TELLS g.K.Keeper.state g.J.Sharing.making g.J.Logs.log in
    spare_held on g.begun (g.L.Link.shown c.args.link.now).faults c.args.write.now c.requires.1.1.1.1.0 c.requires.1.1.1.1.1

pub apply_over-came-requires : goal.apply_over-came-requires
apply_over-came-requires g c =
    let on = on_cluster g.K.Keeper.TELLS g.K.Keeper.state g.J.Sharing.making g.J.Logs.log in
    let ready = to_apply on g.begun (g.L.Link.shown c.args.link.now).faults c.args.write.now c.spare_note_of-note.result c.spare_note_of-note.new.plan c.requires.1.1.1.1.0
    c.requires.1.1.1.1.1 c.spare_note_of-note.ensures.note c.spare_note_of-note.ensures.rest in
    record { committed = ready.committed; follower = ready.follower; note = ready.noted }

pub returns : goal.returns
returns g c =
    let on = on_cluster g.K.Keeper.TELLS g.K.Keeper.state g.J.Sharing.making g.J.Logs.log in
    let old = g.L.Link.shown c.args.link.now in
    let new = g.L.Link.shown c.apply_over-came.new.link in
    let hops : c.saturating_sub-hops.result ≡ new.carries - old.carries =
    omega (arith, c.saturating_sub-hops.ensures, c.carries.ensures, c.carries-carries.ensures) in
    record {
      steps = counted_steps on g.begun new.faults c.saturating_sub-hops.result old.carries new.carries c.args.write.now
          (record { plan = c.take.new.self; seen = c.args.write.now.seen; done = c.args.write.now.done; far = c.args.write.now.far }) hops
          (apply_steps on g.begun old.faults new.faults c.args.write.now c.apply_over-came.result c.saturating_sub-hops.result c.spare_note_of-note.new.plan c.take.new.self
          c.requires.1.1.1.1.0 c.requires.1.1.1.1.1 c.apply_over-came.ensures.later c.spare_note_of-note.ensures.rest c.apply_over-came.ensures.failed c.take.ensures.next);
      later = c.apply_over-came.ensures.carries;
    }
