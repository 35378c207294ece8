use Rattle.std.proofs.Common.{ap}
use Rattle.core_model.specs.Asked.{lent_read}
use Rattle.core_model.specs.Serving.{IsFollowerFor}
use Rattle.tao_base.specs.Queries.{query_shard}
use Rattle.shared_nodes.proofs.Looking.{looked_at_shared}
use Rattle.shared_nodes.proofs.Turns.{serves_turn}
use Rattle.shared_nodes.proofs.follower.SharedFollower.look.Goals as goal

pub look_with_note-requires : goal.look_with_note-requires
look_with_note-requires g c =
    let serves : IsFollowerFor g.J.Sharing.making.settings (query_shard c.args.read.now.query.now) c.self.inside.name =
    rw (ap (λ n. n.name) c.self.view_is) c.requires.serves in
    record {
      serves = serves_turn g.J.Sharing.making g.J.Logs.log c.self.inside.name c.self.inside.follower.node (query_shard c.args.read.now.query.now)
          c.self.invariant serves.here serves.serves;
    }

pub invariant_of-self : goal.invariant_of-self
invariant_of-self g c =
    (looked_at_shared g.J.Sharing.making g.J.Logs.log c.self.inside.name
    (c.named_nodes_stay.ensures g.J.Sharing.making.settings g.J.Logs.log c.self.inside.name) (lent_read c.args.read.now) c.args.schema.now
    c.self.inside.follower c.look_with_note.new.follower c.look_with_note.result c.requires.schema c.self.invariant c.look_with_note.ensures.does
    c.look_with_note.ensures.note c.look_with_note.ensures.err).kept

pub returns-clause-note : goal.returns-clause-note
returns-clause-note g c =
    (looked_at_shared g.J.Sharing.making g.J.Logs.log c.self.inside.name
    (c.named_nodes_stay.ensures g.J.Sharing.making.settings g.J.Logs.log c.self.inside.name) (lent_read c.args.read.now) c.args.schema.now
    c.self.inside.follower c.look_with_note.new.follower c.look_with_note.result c.requires.schema c.self.invariant c.look_with_note.ensures.does
    c.look_with_note.ensures.note c.look_with_note.ensures.err).note

pub returns-clause-legal : goal.returns-clause-legal
returns-clause-legal g c =
    (looked_at_shared g.J.Sharing.making g.J.Logs.log c.self.inside.name
    (c.named_nodes_stay.ensures g.J.Sharing.making.settings g.J.Logs.log c.self.inside.name) (lent_read c.args.read.now) c.args.schema.now
    c.self.inside.follower c.look_with_note.new.follower c.look_with_note.result c.requires.schema c.self.invariant c.look_with_note.ensures.does
    c.look_with_note.ensures.note c.look_with_note.ensures.err).legal
