use Rattle.std.proofs.Common.{◌≡◌, Some, ap, subst, sym, ◌∙◌}
use Rattle.shard_tables.specs.Slaves.{HasMet}
use Rattle.shard_tables.specs.StoreView.{Store}
use Rattle.shard_tables.specs.declared.store.StoreRole.TheVariants.{Master}
use Rattle.locked_nodes.specs.Cluster.{MayFail}
use Rattle.locked_writes.proofs.LeftOpen.{merge_left}
use Rattle.locked_writes.proofs.MergedThere.{merged_since}
use Rattle.locked_writes.specs.Writes.{StaysOpenFor}
use Rattle.locked_writes.proofs.writing.merge.Goals as goal

pub returns-in-Ok-merge-clause-writes : goal.returns-in-Ok-merge-clause-writes
returns-in-Ok-merge-clause-writes g c =
    let far = c.meet.new.self in
    let is = c.is_master-else-not-is_master.ensures c.if-not-is_master-2.false in
    let master : far.store.role ≡ Master = ap (λ (s : Store). s.role) c.meet.ensures.store ∙ is.1 in
    let met : HasMet far.store c.args.held.there c.meet.new.note =
    subst (λ (s : Store). HasMet s c.args.held.there c.meet.new.note) (sym c.meet.ensures.store) c.in-Ok.ensures.met in
    merged_since g.K.Keeper.TELLS g.J.Sharing.making g.J.Logs.log far.store c.merge.new.far.store far.notes.items (g.K.Keeper.state far.keeper)
    (g.K.Keeper.state c.merge.new.far.keeper) c.args.owed.now.from c.args.owed.now.job.now
    c.args.held.there c.meet.new.note c.in-Ok-merge.merge.wrote far.kept master met c.meet.ensures.grows c.in-Ok-merge.ensures.done c.in-Ok-merge.ensures.store

pub returns-in-Err-clause-why : goal.returns-in-Err-clause-why
returns-in-Err-clause-why g c =
    let far = c.meet.new.self in
    let is = c.is_master-else-not-is_master.ensures c.if-not-is_master-2.false in
    let master : far.store.role ≡ Master = ap (λ (s : Store). s.role) c.meet.ensures.store ∙ is.1 in
    let met : HasMet far.store c.args.held.there c.meet.new.note =
    subst (λ (s : Store). HasMet s c.args.held.there c.meet.new.note) (sym c.meet.ensures.store) c.in-Ok.ensures.met in
    subst (λ why. StaysOpenFor (MayFail g.K.Keeper.state) g.J.Sharing.making.settings.log_max (Some c.merge.new.there) why) (sym c.why_left_open.ensures)
    (merge_left g.K.Keeper.state g.K.Keeper.TELLS g.J.Sharing.making g.J.Logs.log far.store far.notes.items far.keeper c.merge.new.far.keeper
    c.args.owed.now.from c.args.owed.now.job.now c.args.held.there c.meet.new.note c.merge.new.there c.in-Err.refusal c.merge.result far.kept master met
    c.merge.ensures.there c.merge.ensures.done c.in-Err.is)
