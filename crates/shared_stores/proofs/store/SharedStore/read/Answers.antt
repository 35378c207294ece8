use Rattle.std.proofs.Common.{◌≡◌, IfOk, ap, subst, ◌∙◌}
use Rattle.shard_tables.specs.ReadOuts.{IsReadOutOf, read_note}
use Rattle.shard_tables.specs.StoreView.{Store}
use Rattle.shard_tables.specs.Stores.{note_of}
use Rattle.tao_schema.specs.Schema.{types_of}
use Rattle.tao_schema.specs.declared.schema.Schema.{Schema}
use Rattle.topology.specs.Config.{Settings}
use Rattle.shared_stores.proofs.Kept.{kept_read}
use Rattle.shared_stores.proofs.PastAnswers.{read_seen}
use Rattle.shared_stores.specs.Locked.{locked}
use Rattle.shared_stores.proofs.store.SharedStore.read.Goals as goal

pub invariant_of-self-2 : goal.invariant_of-self-2
invariant_of-self-2 g c = record {
  kept = kept_read g.K.Keeper.TELLS g.J.Sharing.making g.J.Logs.log c.args.self.now.store c.read.new.self
      (g.K.Keeper.state c.args.self.now.keeper).told (g.K.Keeper.state c.read.new.keeper).told c.args.self.now.notes.items
      c.args.self.now.kept (c.read.ensures.same ∙ c.meet.ensures.same) c.read.ensures.tables;
}

pub returns-clause-past : goal.returns-clause-past
returns-clause-past g c =
    let self = c.args.self.now in
    let told = (g.K.Keeper.state self.keeper).told in
    let schema : c.config.inside.schema ≡ g.J.Sharing.making.settings.schema = ap (λ (s : Settings). s.schema) c.config.view_is ∙ c.requires.schema in
    read_seen g.K.Keeper.TELLS g.J.Sharing.making g.J.Logs.log (locked self.store told self.notes.items) self.kept
    (types_of g.J.Sharing.making.settings.schema) c.args.query.now c.read.result
    (subst (λ (s : Store). IfOk c.read.result (λ out. read_note out ≡ note_of s)) c.meet.ensures.same c.read.ensures.note)
    (λ tells. subst (λ (s : Store). IfOk c.read.result (IsReadOutOf (types_of g.J.Sharing.making.settings.schema) (told s.name).log c.args.query.now))
    c.meet.ensures.same
    (subst (λ (sc : Schema). IfOk c.read.result (IsReadOutOf (types_of sc) (told c.meet.new.self.name).log c.args.query.now)) schema
    (c.read.ensures.found tells)))
