use Rattle.std.proofs.Common.{◌≡◌, ap, sym, ◌∙◌}
use Rattle.core_model.specs.Asked.{lent_call}
use Rattle.shard_tables.specs.StoreView.{Store}
use Rattle.shard_tables.specs.declared.store.StoreRole.TheVariants.{Master}
use Rattle.tao_base.specs.Writes.{write_shard}
use Rattle.tao_base.specs.declared.id.StoreName.{StoreName}
use Rattle.shared_stores.specs.Asked.{asked_of_seen}
use Rattle.locked_writes.proofs.Committed.{commit_refused, committed}
use Rattle.locked_writes.proofs.writing.commit.Goals as goal

pub returns-in-Ok-commit-clause-commits : goal.returns-in-Ok-commit-clause-commits
returns-in-Ok-commit-clause-commits g c =
    let state = g.K.Keeper.state in
    let store = c.take_notes.new.store in
    let after = c.commit.new.store in
    let is = c.is_master.ensures c.if-not-is_master.false in
    let same = c.take_notes.ensures.store in
    let master : store.store.role ≡ Master = ap (λ (s : Store). s.role) same ∙ is.1 in
    let here : write_shard c.args.call.now.write.now ≡ store.store.name.shard =
    sym (ap (λ (s : Store). s.name.shard) same ∙ (ap (λ (n : StoreName). n.shard) is.0 ∙ c.requires.at)) in
    committed g.K.Keeper.TELLS g.J.Sharing.making g.J.Logs.log (lent_call c.args.call.now) c.args.seen.now c.commit.new.note store.store after.store
    (state store.keeper) (state after.keeper) c.in-Ok-commit.wrote c.requires.log master here c.in-Ok-commit.ensures.answer c.commit.ensures.grows
    c.in-Ok-commit.ensures.after c.in-Ok-commit.ensures.owes c.in-Ok-commit.ensures.done c.in-Ok-commit.ensures.store

pub returns-in-Err-clause-refused : goal.returns-in-Err-clause-refused
returns-in-Err-clause-refused g c =
    commit_refused g.K.Keeper.state c.take_notes.new.store.keeper c.commit.new.store.keeper g.K.Keeper.TELLS
    (asked_of_seen g.J.Sharing.making (write_shard c.args.call.now.write.now) c.commit.new.note.entries (lent_call c.args.call.now)) c.commit.result
    c.in-Err.refusal c.faults.result c.refused_as.result c.in-Err.is c.commit.ensures.answer c.commit.ensures.done.calls c.refused_as.ensures
