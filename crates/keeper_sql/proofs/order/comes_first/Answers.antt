use Rattle.std.proofs.Common.{◌∙◌, sym}
use Rattle.keeper_sql.proofs.Ordered.{before_all}
use Rattle.keeper_sql.proofs.order.comes_first.Goals as goal

pub returns-in-len1-up : goal.returns-in-len1-up
returns-in-len1-up c = λ yes newest.
    before_all c.args.edge.now c.next-item.result c.args.later.now c.in-len1-up.len_at_least c.next-item.is (sym c.comes_before.ensures ∙ yes) newest
