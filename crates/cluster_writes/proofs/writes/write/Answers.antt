use Rattle.std.proofs.Common.{◌≡◌, Some, subst, sym}
use Rattle.std.specs.Prelude.{slice_get}
use Rattle.cluster_writes.proofs.WholeWrites.{write_done}
use Rattle.cluster_writes.specs.Replies.{EndsWrite}
use Rattle.core_model.specs.Asked.{client_call}
use Rattle.locked_nodes.proofs.Seeing.{room_apart}
use Rattle.locked_nodes.specs.Cluster.{on_cluster}
use Rattle.locked_nodes.specs.Passes.{IsPassOf}
use Rattle.session_pass.specs.Passes.{SeenPass}
use Rattle.tao_base.specs.declared.entry.Origin.TheVariants.{Client}
use Rattle.cluster_writes.proofs.writes.write.Goals as goal

pub end_write-requires-clause-pass : goal.end_write-requires-clause-pass
end_write-requires-clause-pass g c =
    subst (IsPassOf g.J.Sharing.making g.J.Logs.log) (sym c.run_write-write.ensures.pass)
    (room_apart g.J.Sharing.making g.J.Logs.log c.args.pass.now c.prepare.new.pass c.requires.pass c.prepare.ensures.same).0

pub returns-clause-replies : goal.returns-clause-replies
returns-clause-replies g c =
    let on = on_cluster g.K.Keeper.TELLS g.K.Keeper.state g.J.Sharing.making g.J.Logs.log in
    write_done on (client_call (Client c.args.call.session c.args.call.seq) c.args.call.write) c.args.pass.now c.prepare.new.pass c.end_write.new.pass
    c.prepare.ensures.same c.in-Ok.seen (subst (λ n. slice_get c.args.pass.now.notes n ≡ Some c.in-Ok.seen) c.shard-shard.ensures c.in-Ok.ensures.note)
    c.begin_write-plan.result c.begin_write-plan.ensures c.run_write-write.result (g.L.Link.shown c.args.link.now) (g.L.Link.shown c.run_write-write.new.link)
    c.run_write-write.ensures.write c.end_write.result
    (subst (λ (p : SeenPass). EndsWrite on c.run_write-write.result p c.end_write.new.pass c.end_write.result) c.run_write-write.ensures.pass
    c.end_write.ensures.replies)
