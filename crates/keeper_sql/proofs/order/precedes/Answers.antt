use Rattle.std.proofs.Common.{◌∙◌, sym}
use Rattle.std.specs.BTreeSet.{contains}
use Rattle.std.specs.Ordering.{nat_cmp}
use Rattle.keeper_sql.proofs.Ordered.{new_id, one_more}
use Rattle.keeper_sql.proofs.order.precedes.Goals as goal

pub returns : goal.returns
returns c = λ yes met.
    one_more c.args.edge.now c.args.later.now c.args.met.now c.insert.new.self (c.comes_first.ensures c.if-not-comes_first.false)
    (new_id (contains nat_cmp c.args.met.now c.args.edge.now.id2) (sym c.in_ok-insert.ensures.added ∙ yes)) c.in_ok-insert.ensures.updates met
