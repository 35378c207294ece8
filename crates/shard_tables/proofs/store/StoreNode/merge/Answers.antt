use Rattle.std.proofs.Common.{◌≡◌, ◌<◌, Err, length, refl, subst, sym, ap, ◌∙◌, arith}
use Rattle.std.proofs.lemmas.Bool.Decides.{nat_tests}
use Rattle.std.proofs.lemmas.Result.{err_from_is_err_and}
use Rattle.graph_model.specs.Soundness.{CanFollow}
use Rattle.graph_model.specs.Told.{WhereTold}
use Rattle.shard_tables.proofs.DoneLemmas.{calls_before, keeper_calls, keeper_reads, merge_committed, merge_nothing, merge_refused, merge_unread}
use Rattle.shard_tables.proofs.DoneLemmas.{store_nothing, store_refused}
use Rattle.shard_tables.proofs.MergeCommits.{merge_commit_is, merge_finds_none, merge_is_full}
use Rattle.shard_tables.specs.Refusals.{keeper_refused}
use Rattle.shard_tables.specs.StoreView.{Store}
use Rattle.shard_tables.specs.StoreCommits.{HasNoCommit}
use Rattle.shard_tables.specs.Stores.{IsStoreOf, seen_by}
use Rattle.write_model.specs.MergeLaws.{MayBeMerged}
use Rattle.shard_tables.specs.WriteDone.{MergeDone, StoreGains, asked_merge_at}
use Rattle.shard_tables.specs.declared.refusal.StoreRefusal.TheVariants.{OutOfMemory}
use Rattle.shard_tables.proofs.store.StoreNode.merge.Goals as goal

pub returns-in_err-note-clause-done : goal.returns-in_err-note-clause-done
returns-in_err-note-clause-done g c =
    let state = g.M.Keeper.state c.args.keeper.now in
    let failed = err_from_is_err_and c.from_residual.result c.from_residual.ensures.1 in
    merge_unread g.M.Keeper.TELLS c.args.self.now.name (asked_merge_at state.told c.args.self.now c.args.from c.args.job.now) state state
    c.from_residual.result OutOfMemory (failed.1 ∙ ap (λ y. Err y) failed.2) tt (λ told s. refl)
    (calls_before c.args.self.now state state OutOfMemory tt (record { calls = omega arith; faults = omega arith }))

pub returns-in_err-note-clause-store : goal.returns-in_err-note-clause-store
returns-in_err-note-clause-store g c =
    let state = g.M.Keeper.state c.args.keeper.now in
    store_refused g.M.Keeper.TELLS state state c.args.self.now c.note.new.self c.from_residual.result c.from_residual.ensures.0 c.note.ensures.same
    (λ told s. refl) c.requires.keeper

pub returns-in_err-touches-clause-done : goal.returns-in_err-touches-clause-done
returns-in_err-touches-clause-done g c =
    let old = g.M.Keeper.state c.args.keeper.now in
    let new = g.M.Keeper.state c.news_touches.new.keeper in
    let fail = c.in_err-touches.field-0.0 in
    let failed = err_from_is_err_and c.from_residual-in_err-touches.result c.from_residual-in_err-touches.ensures.1 in
    merge_unread g.M.Keeper.TELLS c.args.self.now.name (asked_merge_at old.told c.args.self.now c.args.from c.args.job.now) old new
    c.from_residual-in_err-touches.result (keeper_refused fail) (failed.1 ∙ ap (λ y. Err y) failed.2) (keeper_reads fail) c.in_err-touches.ensures.stays
    (keeper_calls fail old new c.in_err-touches.ensures.calls)

pub returns-in_err-touches-clause-store : goal.returns-in_err-touches-clause-store
returns-in_err-touches-clause-store g c =
    store_refused g.M.Keeper.TELLS (g.M.Keeper.state c.args.keeper.now) (g.M.Keeper.state c.news_touches.new.keeper) c.args.self.now c.note.new.self
    c.from_residual-in_err-touches.result c.from_residual-in_err-touches.ensures.0 c.note.ensures.same c.in_err-touches.ensures.stays c.requires.keeper

pub returns-then-is_empty-clause-done : goal.returns-then-is_empty-clause-done
returns-then-is_empty-clause-done g c =
    let old = g.M.Keeper.state c.args.keeper.now in
    let new = g.M.Keeper.state c.news_touches.new.keeper in
    let none : length c.in_ok-touches.touches.items ≡ 0 = grind (arith, nat_tests) in
    let at_is : c.name.result ≡ c.args.self.now.name = c.name.ensures ∙ ap (λ s. s.name) c.note.ensures.same in
    let finds = merge_finds_none g.M.Keeper.TELLS old.told c.args.self.now c.name.result c.as_slice.result.now c.in_ok-touches.touches.items c.args.from
    c.args.job.now at_is c.as_slice.ensures c.in_ok-touches.ensures.touches c.requires.master c.requires.keeper none in
    merge_nothing g.M.Keeper.TELLS c.args.self.now.name (asked_merge_at old.told c.args.self.now c.args.from c.args.job.now) old new c.nothing.result
    c.nothing.ensures.entry c.nothing.ensures.retry c.nothing.ensures.job finds.0 finds.1 c.in_ok-touches.ensures.stays
    (record { calls = c.in_ok-touches.ensures.calls.calls; faults = c.in_ok-touches.ensures.calls.faults })

pub returns-then-is_empty-clause-store : goal.returns-then-is_empty-clause-store
returns-then-is_empty-clause-store g c =
    store_nothing g.M.Keeper.TELLS (g.M.Keeper.state c.args.keeper.now) (g.M.Keeper.state c.news_touches.new.keeper) c.args.self.now c.note.new.self
    c.nothing.result c.nothing.ensures.entry c.nothing.ensures.retry
    (c.nothing.ensures.note ∙ c.in_ok-note.ensures.view ∙ ap (λ r. seen_by r c.args.self.now.view) c.requires.master)
    c.note.ensures.same c.in_ok-touches.ensures.stays c.requires.keeper

pub returns-in_err-commit-clause-done : goal.returns-in_err-commit-clause-done
returns-in_err-commit-clause-done g c =
    let old = g.M.Keeper.state c.args.keeper.now in
    let new = g.M.Keeper.state c.news_touches.new.keeper in
    let refusal = c.in_err-commit.field-0.0 in
    let failed = err_from_is_err_and c.from_residual-in_err-commit.result c.from_residual-in_err-commit.ensures.1 in
    let some : 0 < length c.in_ok-touches.touches.items = grind (arith, nat_tests) in
    let at_is : c.name.result ≡ c.args.self.now.name = c.name.ensures ∙ ap (λ s. s.name) c.note.ensures.same in
    let no = subst (λ (s : Store). HasNoCommit s refusal) c.note.ensures.same c.in_err-commit.ensures.refusals in
    let full = merge_is_full g.M.Keeper.TELLS old.told c.args.self.now c.name.result c.as_slice.result.now c.in_ok-touches.touches.items c.args.from
    c.args.job.now at_is c.as_slice.ensures c.in_ok-touches.ensures.touches c.requires.master c.requires.keeper some refusal no in
    merge_refused g.M.Keeper.TELLS c.args.self.now.name (asked_merge_at old.told c.args.self.now c.args.from c.args.job.now) old new
    c.from_residual-in_err-commit.result refusal (failed.1 ∙ ap (λ y. Err y) failed.2) full.0 full.1 c.in_ok-touches.ensures.stays
    (calls_before c.args.self.now old new refusal no
    (record { calls = c.in_ok-touches.ensures.calls.calls; faults = c.in_ok-touches.ensures.calls.faults }))

pub returns-in_err-commit-clause-store : goal.returns-in_err-commit-clause-store
returns-in_err-commit-clause-store g c =
    store_refused g.M.Keeper.TELLS (g.M.Keeper.state c.args.keeper.now) (g.M.Keeper.state c.news_touches.new.keeper) c.args.self.now c.note.new.self
    c.from_residual-in_err-commit.result c.from_residual-in_err-commit.ensures.0 c.note.ensures.same c.in_ok-touches.ensures.stays c.requires.keeper

-- what is committed, over the store that the note was taken of, which is the same
pub add_entry-requires-clause-follows : goal.add_entry-requires-clause-follows
add_entry-requires-clause-follows g c = λ told.
    let lent = c.note.new.self in
    let same = c.note.ensures.same in
    let some : 0 < length c.in_ok-touches.touches.items = grind (arith, nat_tests) in
    let old = (g.M.Keeper.state c.args.keeper.now).told in
    let commit = merge_commit_is g.M.Keeper.TELLS old lent c.name.result c.as_slice.result.now c.in_ok-touches.touches.items c.args.from
    c.args.job.now c.name.ensures c.as_slice.ensures c.in_ok-touches.ensures.touches (ap (λ s. s.role) same ∙ c.requires.master)
    (subst (λ (s : Store). IsStoreOf g.M.Keeper.TELLS old s) (sym same) c.requires.keeper)
    (subst (λ (s : Store). WhereTold g.M.Keeper.TELLS (MayBeMerged s.name.shard (old s.name).log c.args.from c.args.job.now.position c.args.job.now.edges))
    (sym same) c.requires.may)
    c.in_ok-commit.commit some c.in_ok-commit.ensures.entry c.in_ok-commit.ensures.job c.in_ok-commit.ensures.room in
    subst (λ t. CanFollow t.log c.in_ok-commit.commit.entry) (sym (c.in_ok-touches.ensures.stays told lent.name)) (commit.made told).follows

pub returns-clause-done : goal.returns-clause-done
returns-clause-done g c =
    let tells = g.M.Keeper.TELLS in
    let lent = c.note.new.self in
    let same = c.note.ensures.same in
    let some : 0 < length c.in_ok-touches.touches.items = grind (arith, nat_tests) in
    let old = g.M.Keeper.state c.args.keeper.now in
    let mid = g.M.Keeper.state c.news_touches.new.keeper in
    let new = g.M.Keeper.state c.add_entry.new.keeper in
    let commit = merge_commit_is tells old.told lent c.name.result c.as_slice.result.now c.in_ok-touches.touches.items c.args.from
    c.args.job.now c.name.ensures c.as_slice.ensures c.in_ok-touches.ensures.touches (ap (λ s. s.role) same ∙ c.requires.master)
    (subst (λ (s : Store). IsStoreOf tells old.told s) (sym same) c.requires.keeper)
    (subst (λ (s : Store). WhereTold tells (MayBeMerged s.name.shard (old.told s.name).log c.args.from c.args.job.now.position c.args.job.now.edges))
    (sym same) c.requires.may)
    c.in_ok-commit.commit some c.in_ok-commit.ensures.entry c.in_ok-commit.ensures.job c.in_ok-commit.ensures.room in
    subst (λ (s : Store). MergeDone tells s.name (asked_merge_at old.told s c.args.from c.args.job.now) old new c.add_entry.result) same
    (merge_committed tells (asked_merge_at old.told lent c.args.from c.args.job.now) lent c.add_entry.new.store old mid new c.in_ok-commit.commit
    c.in_ok-touches.ensures.stays (record { calls = c.in_ok-touches.ensures.calls.calls; faults = c.in_ok-touches.ensures.calls.faults }) commit refl
    (ap (λ s. s.view.log.told) same ∙ c.requires.keeper.told_is) (λ told. g.met.M.Keeper.sound c.args.keeper.now lent.name told)
    c.add_entry.result c.add_entry.ensures.wrote c.add_entry.ensures.refusals c.add_entry.ensures.tables c.add_entry.ensures.store
    c.add_entry.ensures.logs c.add_entry.ensures.calls)

pub returns-clause-store : goal.returns-clause-store
returns-clause-store g c =
    subst (λ (s : Store). StoreGains g.M.Keeper.TELLS (g.M.Keeper.state c.add_entry.new.keeper).told s c.add_entry.new.store c.add_entry.result)
    c.note.ensures.same c.add_entry.ensures.store
