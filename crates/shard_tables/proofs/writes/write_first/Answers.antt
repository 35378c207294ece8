use Rattle.std.proofs.Common.{◌≡◌, ◌<◌, Err, length, refl, subst, sym, ap, ◌∙◌, arith}
use Rattle.std.proofs.lemmas.Bool.Decides.{nat_tests}
use Rattle.std.proofs.lemmas.Result.{err_from_is_err_and}
use Rattle.graph_model.specs.Soundness.{CanFollow}
use Rattle.shard_tables.proofs.DoneLemmas.{calls_before, store_nothing, store_refused, write_committed, write_nothing, write_refused}
use Rattle.shard_tables.proofs.WriteCommits.{touch_calls, touches_refused, write_commit_is, write_finds_none, write_is_full}
use Rattle.shard_tables.specs.Refusals.{write_refused as store_refusal}
use Rattle.shard_tables.specs.WriteDone.{asked_at}
use Rattle.tao_schema.specs.Schema.{types_of}
use Rattle.shard_tables.proofs.writes.write_first.Goals as goal

pub returns-in_err-touches-clause-done : goal.returns-in_err-touches-clause-done
returns-in_err-touches-clause-done g c =
    let types = types_of c.args.schema.now in
    let old = g.M.Keeper.state c.args.keeper.now in
    let new = g.M.Keeper.state c.touches_of.new.keeper in
    let fail = c.in_err-touches.field-0.0 in
    let failed = err_from_is_err_and c.from_residual.result c.from_residual.ensures.1 in
    write_refused g.M.Keeper.TELLS c.args.store.now.name (asked_at types old.told c.args.store.now c.args.origin c.args.write.now) old new
    c.from_residual.result (store_refusal fail) (failed.1 ∙ ap (λ y. Err y) failed.2)
    (touches_refused g.M.Keeper.TELLS types old.told c.args.store.now c.args.origin c.args.write.now c.name.result c.epoch.result c.epoch.ensures.epoch
    c.name.ensures c.requires.new fail c.in_err-touches.ensures.touches)
    c.requires.sound c.in_err-touches.ensures.stays (touch_calls fail old new c.in_err-touches.ensures.calls)

pub returns-in_err-touches-clause-store : goal.returns-in_err-touches-clause-store
returns-in_err-touches-clause-store g c =
    store_refused g.M.Keeper.TELLS (g.M.Keeper.state c.args.keeper.now) (g.M.Keeper.state c.touches_of.new.keeper) c.args.store.now c.args.store.now
    c.from_residual.result c.from_residual.ensures.0 refl c.in_err-touches.ensures.stays c.requires.keeper

pub returns-then-is_empty-clause-done : goal.returns-then-is_empty-clause-done
returns-then-is_empty-clause-done g c =
    let types = types_of c.args.schema.now in
    let old = g.M.Keeper.state c.args.keeper.now in
    let new = g.M.Keeper.state c.touches_of.new.keeper in
    let none : length c.in_ok-touches.touches.items ≡ 0 = grind (arith, nat_tests) in
    let finds = write_finds_none g.M.Keeper.TELLS types old.told c.args.store.now c.args.origin c.args.write.now c.name.result c.epoch.result
    c.epoch.ensures.epoch c.name.ensures c.requires.new c.in_ok-touches.touches.items c.in_ok-touches.ensures.touches none c.in_ok-touches.ensures.one in
    write_nothing g.M.Keeper.TELLS c.args.store.now.name (asked_at types old.told c.args.store.now c.args.origin c.args.write.now) old new
    c.nothing.result c.nothing.ensures.entry c.nothing.ensures.retry c.nothing.ensures.job finds.0 finds.1 c.requires.sound
    c.in_ok-touches.ensures.stays (record { calls = c.in_ok-touches.ensures.calls.calls; faults = c.in_ok-touches.ensures.calls.faults })

pub returns-then-is_empty-clause-store : goal.returns-then-is_empty-clause-store
returns-then-is_empty-clause-store g c =
    store_nothing g.M.Keeper.TELLS (g.M.Keeper.state c.args.keeper.now) (g.M.Keeper.state c.touches_of.new.keeper) c.args.store.now c.args.store.now
    c.nothing.result c.nothing.ensures.entry c.nothing.ensures.retry (c.nothing.ensures.note ∙ c.requires.note) refl c.in_ok-touches.ensures.stays
    c.requires.keeper

pub returns-in_err-commit-clause-done : goal.returns-in_err-commit-clause-done
returns-in_err-commit-clause-done g c =
    let types = types_of c.args.schema.now in
    let old = g.M.Keeper.state c.args.keeper.now in
    let new = g.M.Keeper.state c.touches_of.new.keeper in
    let refusal = c.in_err-commit.field-0.0 in
    let failed = err_from_is_err_and c.from_residual-in_err-commit.result c.from_residual-in_err-commit.ensures.1 in
    let some : 0 < length c.in_ok-touches.touches.items = grind (arith, nat_tests) in
    write_refused g.M.Keeper.TELLS c.args.store.now.name (asked_at types old.told c.args.store.now c.args.origin c.args.write.now) old new
    c.from_residual-in_err-commit.result refusal (failed.1 ∙ ap (λ y. Err y) failed.2)
    (write_is_full g.M.Keeper.TELLS types old.told c.args.store.now c.args.origin c.args.write.now c.name.result c.epoch.result c.epoch.ensures.epoch
    c.name.ensures c.requires.new c.in_ok-touches.touches.items c.in_ok-touches.ensures.touches c.requires.master c.requires.keeper some refusal
    c.in_err-commit.ensures.refusals)
    c.requires.sound c.in_ok-touches.ensures.stays
    (calls_before c.args.store.now old new refusal c.in_err-commit.ensures.refusals
    (record { calls = c.in_ok-touches.ensures.calls.calls; faults = c.in_ok-touches.ensures.calls.faults }))

pub returns-in_err-commit-clause-store : goal.returns-in_err-commit-clause-store
returns-in_err-commit-clause-store g c =
    store_refused g.M.Keeper.TELLS (g.M.Keeper.state c.args.keeper.now) (g.M.Keeper.state c.touches_of.new.keeper) c.args.store.now c.args.store.now
    c.from_residual-in_err-commit.result c.from_residual-in_err-commit.ensures.0 refl c.in_ok-touches.ensures.stays c.requires.keeper

pub add_entry-requires-clause-follows : goal.add_entry-requires-clause-follows
add_entry-requires-clause-follows g c = λ told.
    let types = types_of c.args.schema.now in
    let old = g.M.Keeper.state c.args.keeper.now in
    let some : 0 < length c.in_ok-touches.touches.items = grind (arith, nat_tests) in
    let commit = write_commit_is g.M.Keeper.TELLS types old.told c.args.store.now c.args.origin c.args.write.now c.name.result c.epoch.result
    c.epoch.ensures.epoch c.name.ensures c.requires.new c.in_ok-touches.touches.items c.in_ok-touches.ensures.touches c.requires.master c.requires.keeper
    some c.inverses_match.ensures c.requires.sound c.requires.here c.requires.changes c.in_ok-commit.commit c.in_ok-commit.ensures.entry
    c.in_ok-commit.ensures.job c.in_ok-commit.ensures.can c.in_ok-commit.ensures.room c.in_ok-touches.ensures.names in
    subst (λ t. CanFollow t.log c.in_ok-commit.commit.entry) (sym (c.in_ok-touches.ensures.stays told c.args.store.now.name)) (commit.stays told).follows

pub returns-clause-done : goal.returns-clause-done
returns-clause-done g c =
    let types = types_of c.args.schema.now in
    let old = g.M.Keeper.state c.args.keeper.now in
    let mid = g.M.Keeper.state c.touches_of.new.keeper in
    let new = g.M.Keeper.state c.add_entry.new.keeper in
    let some : 0 < length c.in_ok-touches.touches.items = grind (arith, nat_tests) in
    let commit = write_commit_is g.M.Keeper.TELLS types old.told c.args.store.now c.args.origin c.args.write.now c.name.result c.epoch.result
    c.epoch.ensures.epoch c.name.ensures c.requires.new c.in_ok-touches.touches.items c.in_ok-touches.ensures.touches c.requires.master c.requires.keeper
    some c.inverses_match.ensures c.requires.sound c.requires.here c.requires.changes c.in_ok-commit.commit c.in_ok-commit.ensures.entry
    c.in_ok-commit.ensures.job c.in_ok-commit.ensures.can c.in_ok-commit.ensures.room c.in_ok-touches.ensures.names in
    write_committed g.M.Keeper.TELLS (asked_at types old.told c.args.store.now c.args.origin c.args.write.now) c.args.store.now c.add_entry.new.store
    old mid new c.in_ok-commit.commit c.in_ok-touches.ensures.stays
    (record { calls = c.in_ok-touches.ensures.calls.calls; faults = c.in_ok-touches.ensures.calls.faults }) commit refl c.requires.keeper.told_is
    c.requires.sound c.add_entry.result c.add_entry.ensures.wrote c.add_entry.ensures.refusals c.add_entry.ensures.tables c.add_entry.ensures.store
    c.add_entry.ensures.logs c.add_entry.ensures.calls
