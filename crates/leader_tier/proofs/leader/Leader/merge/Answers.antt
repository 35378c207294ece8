use Rattle.std.proofs.Common.{Err, refl, ap, sym, subst, ◌∙◌, arith}
use Rattle.std.proofs.lemmas.Result.{err_from_is_err_and}
use Rattle.shard_tables.proofs.DoneLemmas.{calls_before, merge_unread, store_refused}
use Rattle.shard_tables.specs.StoreView.{Store}
use Rattle.shard_tables.specs.WriteDone.{MergeDone, StoreGains, asked_merge_at}
use Rattle.shard_tables.specs.declared.refusal.StoreRefusal.TheVariants.{OutOfMemory}
use Rattle.leader_tier.proofs.leader.Leader.merge.Goals as goal

-- no memory for the note: nothing was called
pub returns-in_err-note-clause-done : goal.returns-in_err-note-clause-done
returns-in_err-note-clause-done g c =
    let state = g.M.Keeper.state c.args.keeper.now in
    let failed = err_from_is_err_and c.from_residual.result c.from_residual.ensures.1 in
    merge_unread g.M.Keeper.TELLS c.args.store.now.name (asked_merge_at state.told c.args.store.now c.args.from c.args.job.now) state state
    c.from_residual.result OutOfMemory (failed.1 ∙ ap (λ y. Err y) failed.2) tt (λ told s. refl)
    (calls_before c.args.store.now state state OutOfMemory tt (record { calls = omega arith; faults = omega arith }))

pub returns-in_err-note-clause-store : goal.returns-in_err-note-clause-store
returns-in_err-note-clause-store g c =
    let state = g.M.Keeper.state c.args.keeper.now in
    store_refused g.M.Keeper.TELLS state state c.args.store.now c.spare_note.new.store c.from_residual.result c.from_residual.ensures.0
    c.spare_note.ensures.same (λ told s. refl) c.requires.keeper

-- the store did it, which is the one that the note was taken of
pub returns-clause-done : goal.returns-clause-done
returns-clause-done g c =
    let old = g.M.Keeper.state c.args.keeper.now in
    subst (λ (s : Store). MergeDone g.M.Keeper.TELLS s.name (asked_merge_at old.told s c.args.from c.args.job.now)
    old (g.M.Keeper.state c.merge-merged.new.keeper) c.merge-merged.result) c.spare_note.ensures.same c.merge-merged.ensures.done

pub returns-clause-store : goal.returns-clause-store
returns-clause-store g c =
    let tables = (g.M.Keeper.state c.merge-merged.new.keeper).told in
    subst (λ (s : Store). StoreGains g.M.Keeper.TELLS tables s c.take_written.new.store c.merge-merged.result) c.spare_note.ensures.same
    (subst (λ (s : Store). StoreGains g.M.Keeper.TELLS tables c.spare_note.new.store s c.merge-merged.result) (sym c.take_written.ensures.same)
    c.merge-merged.ensures.store)
