use Rattle.write_touches.proofs.OwnRecords.{set_is, cut_is, move_is}
use Rattle.write_touches.proofs.own_records.own_updates.Goals as goal

pub returns-in_ok-set_over-in-AssocAdd-clause-updates : goal.returns-in_ok-set_over-in-AssocAdd-clause-updates
returns-in_ok-set_over-in-AssocAdd-clause-updates g c = λ told.
    set_is c.args.epoch ((g.M.Keeper.state c.args.keeper.now).told c.args.at).log _ _ _ _ _ _ _ _ c.in-AssocAdd.is
    (c.in_ok-old-in-AssocAdd.ensures.answer told) c.in_ok-set_over-in-AssocAdd.ensures.updates

pub returns-in_ok-cut_over-in-AssocDelete-clause-updates : goal.returns-in_ok-cut_over-in-AssocDelete-clause-updates
returns-in_ok-cut_over-in-AssocDelete-clause-updates g c = λ told.
    cut_is c.args.epoch ((g.M.Keeper.state c.args.keeper.now).told c.args.at).log _ _ _ _ _ _ c.in-AssocDelete.is
    (c.in_ok-old-in-AssocDelete.ensures.answer told) c.in_ok-cut_over-in-AssocDelete.ensures.updates

pub returns-in_ok-move_over-in-AssocChangeType-clause-updates : goal.returns-in_ok-move_over-in-AssocChangeType-clause-updates
returns-in_ok-move_over-in-AssocChangeType-clause-updates g c = λ told.
    move_is c.args.epoch _ _ _ _ _ _ _ _ _ _ c.in-AssocChangeType.is (c.in_ok-old-in-AssocChangeType.ensures.stays told c.args.at)
    (c.in_ok-old-in-AssocChangeType.ensures.answer told)
    (c.in_ok-there-in-AssocChangeType.ensures.answer told) c.in_ok-move_over-in-AssocChangeType.ensures.updates
