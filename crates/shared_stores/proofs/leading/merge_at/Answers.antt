use Rattle.std.proofs.Common.{ap, subst, ◌∙◌}
use Rattle.tao_base.specs.EdgeTypes.{InversesMatch}
use Rattle.tao_schema.specs.Schema.{types_of}
use Rattle.topology.specs.Config.{Settings}
use Rattle.shared_stores.specs.Asked.{lent_owed}
use Rattle.shared_stores.proofs.KeptMerges.{all_merged, kept_merge, may_merge}
use Rattle.shared_stores.proofs.leading.merge_at.Goals as goal

pub merge_of-requires-clause-may : goal.merge_of-requires-clause-may
merge_of-requires-clause-may g c =
    let match = subst (λ k. InversesMatch (types_of k)) (ap (λ (s : Settings). s.schema) c.config.view_is ∙ c.requires.schema) c.inverses_match.ensures in
    may_merge g.K.Keeper.TELLS g.J.Sharing.making g.J.Logs.log c.args.store.now.store (g.K.Keeper.state c.args.store.now.keeper)
    c.args.store.now.notes.items c.args.store.now.kept c.requires.master (lent_owed c.args.owed.now) c.requires.here match c.merges_keep_locked.ensures
    c.requires.owed c.requires.seen

pub invariant_of-store : goal.invariant_of-store
invariant_of-store g c =
    let match = subst (λ k. InversesMatch (types_of k)) (ap (λ (s : Settings). s.schema) c.config.view_is ∙ c.requires.schema) c.inverses_match.ensures in
    record {
      kept = kept_merge g.K.Keeper.TELLS g.J.Sharing.making g.J.Logs.log c.args.store.now.store (g.K.Keeper.state c.args.store.now.keeper)
          c.args.store.now.notes.items c.args.store.now.kept c.requires.master (lent_owed c.args.owed.now) c.requires.here match
          c.merges_keep_locked.ensures c.requires.owed c.requires.seen c.merge_of.new.store (g.K.Keeper.state c.merge_of.new.keepers) c.merge_of.result
          c.merge_of.ensures.done c.merge_of.ensures.store;
    }

pub returns-clause-merged : goal.returns-clause-merged
returns-clause-merged g c =
    let match = subst (λ k. InversesMatch (types_of k)) (ap (λ (s : Settings). s.schema) c.config.view_is ∙ c.requires.schema) c.inverses_match.ensures in
    all_merged g.K.Keeper.TELLS g.J.Sharing.making g.J.Logs.log c.args.store.now.store (g.K.Keeper.state c.args.store.now.keeper)
    c.args.store.now.notes.items c.args.store.now.kept c.requires.master (lent_owed c.args.owed.now) c.requires.here match
    c.merges_keep_locked.ensures c.requires.owed c.requires.seen c.merge_of.new.store (g.K.Keeper.state c.merge_of.new.keepers) c.merge_of.result
    c.merge_of.ensures.done c.merge_of.ensures.store
