use Rattle.std.proofs.Common.{Err, ap, sym, subst, ◌∙◌}
use Rattle.std.proofs.lemmas.Result.{err_from_is_err_and}
use Rattle.node_stages.specs.core_model.Asked.{settings}
use Rattle.graph_model.specs.Soundness.{IsSoundOf}
use Rattle.graph_model.specs.Told.{WhereTold}
use Rattle.shard_tables.specs.StoreView.{Store}
use Rattle.shard_tables.specs.WriteDone.{StoreGains, WriteDone, asked_at}
use Rattle.tao_base.specs.EdgeTypes.{InversesMatch}
use Rattle.tao_schema.specs.Schema.{types_of}
use Rattle.topology.specs.Config.{Settings}
use Rattle.shared_stores.proofs.Kept.{sound_own}
use Rattle.shared_stores.proofs.KeptCommits.{kept_commit, no_commit}
use Rattle.shared_stores.proofs.OwedWrites.{owes_written}
use Rattle.shared_stores.proofs.leading.commit_at.Goals as goal

pub returns-in_err-meet-clause-done : goal.returns-in_err-meet-clause-done
returns-in_err-meet-clause-done g c =
    let x = c.args.store.now.store in
    let keepers = g.K.Keeper.state c.args.store.now.keeper in
    let call = c.args.call.now in
    let types = types_of g.J.Sharing.making.settings.schema in
    let p = err_from_is_err_and c.from_residual.result c.from_residual.ensures.1 in
    rw p.1 (subst (λ e. WriteDone g.K.Keeper.TELLS x.name (asked_at types keepers.told x call.origin call.write.now) keepers keepers (Err e)) (sym p.2)
    (no_commit g.K.Keeper.TELLS g.J.Sharing.making g.J.Logs.log x keepers c.args.store.now.notes.items c.args.store.now.kept c.requires.master call.origin
    call.write.now))

pub commit_of-requires-clause-sound : goal.commit_of-requires-clause-sound
commit_of-requires-clause-sound g c =
    let m = g.J.Sharing.making in
    let told = (g.K.Keeper.state c.args.store.now.keeper).told in
    subst (λ (x : Store). WhereTold g.K.Keeper.TELLS (IsSoundOf (types_of (c.args.around.now.config.now).schema) x.name.shard (told x.name).log))
    (sym c.meet.ensures.same)
    (subst (λ k. WhereTold g.K.Keeper.TELLS (IsSoundOf (types_of k) c.args.store.now.store.name.shard (told c.args.store.now.store.name).log))
    (sym c.requires.schema)
    (sound_own g.K.Keeper.TELLS m g.J.Logs.log c.args.store.now.store told c.args.store.now.notes.items c.args.store.now.kept c.requires.master))

pub invariant_of-store-2 : goal.invariant_of-store-2
invariant_of-store-2 g c =
    let tells = g.K.Keeper.TELLS in
    let m = g.J.Sharing.making in
    let x = c.args.store.now.store in
    let after = c.commit_of.new.store in
    let old = g.K.Keeper.state c.args.store.now.keeper in
    let new = g.K.Keeper.state c.commit_of.new.keepers in
    let call = c.args.call.now in
    let r = c.commit_of.result in
    let there = subst (λ (y : Store). WriteDone tells y.name
    (asked_at (types_of (settings c.args.around.now).schema) old.told y call.origin call.write.now) old new r) c.meet.ensures.same c.commit_of.ensures.done in
    let done = subst (λ k. WriteDone tells x.name (asked_at (types_of k) old.told x call.origin call.write.now) old new r) c.requires.schema there in
    let made = subst (λ (y : Store). StoreGains tells new.told y after r) c.meet.ensures.same c.commit_of.ensures.store in
    let match = subst (λ k. InversesMatch (types_of k)) (ap (λ (s : Settings). s.schema) c.config.view_is ∙ c.requires.schema) c.inverses_match.ensures in
    record {
      kept = kept_commit tells m g.J.Logs.log x after old new c.args.store.now.notes.items c.args.store.now.kept c.requires.master match call.origin
          call.write.now c.requires.here c.requires.client c.requires.changes c.writes_keep_locked.ensures
          (g.met.K.Keeper.of_entries c.args.store.now.keeper x.name) r done made;
    }

pub returns-clause-owes : goal.returns-clause-owes
returns-clause-owes g c =
    let tells = g.K.Keeper.TELLS in
    let m = g.J.Sharing.making in
    let x = c.args.store.now.store in
    let old = g.K.Keeper.state c.args.store.now.keeper in
    let new = g.K.Keeper.state c.commit_of.new.keepers in
    let call = c.args.call.now in
    let r = c.commit_of.result in
    let there = subst (λ (y : Store). WriteDone tells y.name
    (asked_at (types_of (settings c.args.around.now).schema) old.told y call.origin call.write.now) old new r) c.meet.ensures.same c.commit_of.ensures.done in
    let done = subst (λ k. WriteDone tells x.name (asked_at (types_of k) old.told x call.origin call.write.now) old new r) c.requires.schema there in
    owes_written tells m g.J.Logs.log x old new c.args.store.now.notes.items c.args.store.now.kept c.requires.master call.origin call.write.now r done
