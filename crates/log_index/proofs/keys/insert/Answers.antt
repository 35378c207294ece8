use Rattle.std.proofs.Common.{Some}
use Rattle.log_index.proofs.Ids.{updated}
use Rattle.log_index.proofs.keys.insert.Goals as goal

pub returns : goal.returns
returns c = updated _ c.comparisons_are_by_value.ensures.key_order c.args.keys.now c.insert.new.self c.args.key
    (Some c.args.table) c.in_ok-insert.ensures.updates.0
