use Rattle.std.proofs.Common.{◌≡◌, Err, ap, subst, sym, ◌∙◌}
use Rattle.std.proofs.lemmas.Result.{err_from_is_err_and}
use Rattle.std.specs.Prelude.{MatchResult, Some}
use Rattle.graph_model.specs.Told.{WhereTold}
use Rattle.shard_tables.proofs.DoneLemmas.{sound_stays, store_refused, store_since, write_unread}
use Rattle.shard_tables.proofs.WriteCommits.{store_repeated, write_repeated, write_since}
use Rattle.shard_tables.specs.StoreCommits.{HasEntryAt, IsOtherWrite}
use Rattle.shard_tables.specs.StoreView.{Store}
use Rattle.shard_tables.specs.Stores.{seen_by}
use Rattle.shard_tables.specs.WriteDone.{StoreGains, WriteDone, asked_at}
use Rattle.tao_keeper.specs.Table.{StandsAt}
use Rattle.tao_schema.specs.Schema.{types_of}
use Rattle.shard_tables.proofs.store.StoreNode.write.Goals as goal

pub returns-in_err-begun-clause-done : goal.returns-in_err-begun-clause-done
returns-in_err-begun-clause-done g c =
    let old = g.M.Keeper.state c.args.keeper.now in
    let new = g.M.Keeper.state c.begin.new.keeper in
    let failed = err_from_is_err_and c.from_residual.result c.from_residual.ensures.1 in
    write_unread g.M.Keeper.TELLS c.args.self.now.name
    (asked_at (types_of c.args.schema.now) old.told c.args.self.now c.args.origin c.args.write.now) old new
    c.from_residual.result c.in_err-begun.field-0.0 (failed.1 ∙ ap (λ y. Err y) failed.2) c.in_err-begun.ensures.refusals c.requires.sound
    c.in_err-begun.ensures.stays (record {
      calls = c.in_err-begun.ensures.calls.calls;
      faults = c.in_err-begun.ensures.calls.faults;
      failed = λ is. c.in_err-begun.ensures.calls.failed (cc);
    })

pub returns-in_err-begun-clause-store : goal.returns-in_err-begun-clause-store
returns-in_err-begun-clause-store g c =
    store_refused g.M.Keeper.TELLS (g.M.Keeper.state c.args.keeper.now) (g.M.Keeper.state c.begin.new.keeper) c.args.self.now c.begin.new.self
    c.from_residual.result c.from_residual.ensures.0 c.begin.ensures.same c.in_err-begun.ensures.stays c.requires.keeper

-- the write was made before, over tables that stayed since its origin was looked for
pub returns-in-Some-clause-done : goal.returns-in-Some-clause-done
returns-in-Some-clause-done g c =
    let tells = g.M.Keeper.TELLS in
    let types = types_of c.args.schema.now in
    let self = c.args.self.now in
    let old = g.M.Keeper.state c.args.keeper.now in
    let mid = g.M.Keeper.state c.begin.new.keeper in
    let new = g.M.Keeper.state c.write_again.new.keeper in
    let position = c.in-Some.position in
    let at_is : c.name.result ≡ self.name = c.name.ensures ∙ ap (λ s. s.name) c.begin.ensures.same in
    let noted = c.in_ok-begun.ensures.begun ∙ ap (λ r. seen_by r self.view) c.requires.master in
    let stays = c.in_ok-begun.ensures.stays in
    let stands : WhereTold tells (StandsAt (mid.told self.name).log c.args.origin (Some position)) = λ told.
    subst (λ t. StandsAt t.log c.args.origin (Some position)) (sym (stays told self.name))
    (subst (StandsAt (old.told self.name).log c.args.origin) c.in-Some.is (c.in_ok-begun.ensures.answer told)) in
    let answer = subst (λ n. WhereTold tells (MatchResult c.write_again.result (HasEntryAt (mid.told n) position)
    (IsOtherWrite (mid.told n) position c.args.write.now))) at_is c.write_again.ensures.answer in
    write_since tells types self c.args.origin c.args.write.now old mid new c.write_again.result stays
    (record { calls = c.in_ok-begun.ensures.calls.calls; faults = c.in_ok-begun.ensures.calls.faults })
    (write_repeated tells types self c.args.origin c.args.write.now position c.in_ok-begun.begun.note mid new c.requires.master
    (store_since tells old mid self stays c.requires.keeper) (sound_stays types tells self.name old mid stays c.requires.sound) noted stands
    c.write_again.ensures.stays c.write_again.result answer c.write_again.ensures.retried c.write_again.ensures.calls)

pub returns-in-Some-clause-store : goal.returns-in-Some-clause-store
returns-in-Some-clause-store g c =
    let self = c.args.self.now in
    let noted = c.in_ok-begun.ensures.begun ∙ ap (λ r. seen_by r self.view) c.requires.master in
    let mid = g.M.Keeper.state c.begin.new.keeper in
    store_repeated g.M.Keeper.TELLS self c.args.write.now c.in_ok-begun.begun.note mid (g.M.Keeper.state c.write_again.new.keeper)
    (store_since g.M.Keeper.TELLS (g.M.Keeper.state c.args.keeper.now) mid self c.in_ok-begun.ensures.stays c.requires.keeper) noted
    c.write_again.ensures.stays c.begin.new.self c.write_again.result c.begin.ensures.same c.write_again.ensures.retried

-- the write is new
pub returns-in-None-clause-done : goal.returns-in-None-clause-done
returns-in-None-clause-done g c =
    let types = types_of c.args.schema.now in
    let old = g.M.Keeper.state c.args.keeper.now in
    let mid = g.M.Keeper.state c.begin.new.keeper in
    let new = g.M.Keeper.state c.write_first.new.keeper in
    write_since g.M.Keeper.TELLS types c.args.self.now c.args.origin c.args.write.now old mid new c.write_first.result c.in_ok-begun.ensures.stays
    (record { calls = c.in_ok-begun.ensures.calls.calls; faults = c.in_ok-begun.ensures.calls.faults })
    (subst (λ (s : Store). WriteDone g.M.Keeper.TELLS s.name (asked_at types mid.told s c.args.origin c.args.write.now) mid new c.write_first.result)
    c.begin.ensures.same c.write_first.ensures.done)

pub returns-in-None-clause-store : goal.returns-in-None-clause-store
returns-in-None-clause-store g c =
    subst (λ (s : Store). StoreGains g.M.Keeper.TELLS (g.M.Keeper.state c.write_first.new.keeper).told s c.write_first.new.store c.write_first.result)
    c.begin.ensures.same c.write_first.ensures.store
