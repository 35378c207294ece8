use Rattle.std.proofs.Common.{ap}
use Rattle.core_model.specs.Asked.{lent_read}
use Rattle.core_model.specs.Serving.{IsFollowerFor}
use Rattle.tao_base.specs.Queries.{query_shard}
use Rattle.shared_nodes.proofs.Looking.{kept_at_shared}
use Rattle.shared_nodes.proofs.Turns.{log_of_turn, serves_turn}
use Rattle.shared_nodes.proofs.follower.SharedFollower.keep.Goals as goal

pub keep_with_note-requires-clause-serves : goal.keep_with_note-requires-clause-serves
keep_with_note-requires-clause-serves g c =
    let serves : IsFollowerFor g.J.Sharing.making.settings (query_shard c.args.read.now.query.now) c.self.inside.name =
    rw (ap (λ n. n.name) c.self.view_is) c.requires.serves in
    serves_turn g.J.Sharing.making g.J.Logs.log c.self.inside.name c.self.inside.follower.node (query_shard c.args.read.now.query.now) c.self.invariant
    serves.here serves.serves

pub keep_with_note-requires-clause-log : goal.keep_with_note-requires-clause-log
keep_with_note-requires-clause-log g c =
    let serves : IsFollowerFor g.J.Sharing.making.settings (query_shard c.args.read.now.query.now) c.self.inside.name =
    rw (ap (λ n. n.name) c.self.view_is) c.requires.serves in
    log_of_turn g.J.Sharing.making g.J.Logs.log c.self.inside.name c.self.inside.follower.node (query_shard c.args.read.now.query.now) c.args.fill.note
    c.self.invariant serves.here serves.serves c.requires.fill.seen

pub invariant_of-self : goal.invariant_of-self
invariant_of-self g c =
    (kept_at_shared g.J.Sharing.making g.J.Logs.log c.self.inside.name
    (c.named_nodes_stay.ensures g.J.Sharing.making.settings g.J.Logs.log c.self.inside.name) (lent_read c.args.read.now) c.args.schema.now c.args.ask
    c.args.fill c.self.inside.follower c.keep_with_note.new.follower c.keep_with_note.result c.requires.schema c.self.invariant c.requires.fill
    c.keep_with_note.ensures.does c.keep_with_note.ensures.err c.keep_with_note.ensures.note c.keep_with_note.ensures.legal
    c.keep_with_note.ensures.open c.keep_with_note.ensures.on).kept

pub returns-clause-note : goal.returns-clause-note
returns-clause-note g c =
    (kept_at_shared g.J.Sharing.making g.J.Logs.log c.self.inside.name
    (c.named_nodes_stay.ensures g.J.Sharing.making.settings g.J.Logs.log c.self.inside.name) (lent_read c.args.read.now) c.args.schema.now c.args.ask
    c.args.fill c.self.inside.follower c.keep_with_note.new.follower c.keep_with_note.result c.requires.schema c.self.invariant c.requires.fill
    c.keep_with_note.ensures.does c.keep_with_note.ensures.err c.keep_with_note.ensures.note c.keep_with_note.ensures.legal
    c.keep_with_note.ensures.open c.keep_with_note.ensures.on).note

pub returns-clause-legal : goal.returns-clause-legal
returns-clause-legal g c =
    (kept_at_shared g.J.Sharing.making g.J.Logs.log c.self.inside.name
    (c.named_nodes_stay.ensures g.J.Sharing.making.settings g.J.Logs.log c.self.inside.name) (lent_read c.args.read.now) c.args.schema.now c.args.ask
    c.args.fill c.self.inside.follower c.keep_with_note.new.follower c.keep_with_note.result c.requires.schema c.self.invariant c.requires.fill
    c.keep_with_note.ensures.does c.keep_with_note.ensures.err c.keep_with_note.ensures.note c.keep_with_note.ensures.legal
    c.keep_with_note.ensures.open c.keep_with_note.ensures.on).legal

pub returns-clause-why : goal.returns-clause-why
returns-clause-why g c =
    (kept_at_shared g.J.Sharing.making g.J.Logs.log c.self.inside.name
    (c.named_nodes_stay.ensures g.J.Sharing.making.settings g.J.Logs.log c.self.inside.name) (lent_read c.args.read.now) c.args.schema.now c.args.ask
    c.args.fill c.self.inside.follower c.keep_with_note.new.follower c.keep_with_note.result c.requires.schema c.self.invariant c.requires.fill
    c.keep_with_note.ensures.does c.keep_with_note.ensures.err c.keep_with_note.ensures.note c.keep_with_note.ensures.legal
    c.keep_with_note.ensures.open c.keep_with_note.ensures.on).why
