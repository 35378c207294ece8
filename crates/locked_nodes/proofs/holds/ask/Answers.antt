use Rattle.std.proofs.Common.{refl}
use Rattle.core_model.specs.leader_tier.LeaderReads.{asked_read}
use Rattle.shared_nodes.specs.shared_stores.Locked.{locked}
use Rattle.tao_schema.specs.Schema.{types_of}
use Rattle.locked_nodes.proofs.PastAnswers.{given_seen}
use Rattle.locked_nodes.proofs.holds.ask.Goals as goal

pub returns-in-Ok-clause-past : goal.returns-in-Ok-clause-past
returns-in-Ok-clause-past g c =
    let store = c.args.store.now in
    let before = g.K.Keeper.state store.keeper in
    given_seen g.K.Keeper.TELLS g.J.Sharing.making g.J.Logs.log (locked store.store before.told store.notes.items) store.kept
    (asked_read (types_of g.J.Sharing.making.settings.schema) c.args.leader.now.node c.args.read.now.query.now c.args.read.now.floor) c.in-Ok.given
    c.ask.new.self.node before (g.K.Keeper.state c.ask.new.store.keeper) refl c.in-Ok.ensures.does.does
