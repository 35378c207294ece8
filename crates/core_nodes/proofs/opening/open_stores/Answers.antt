use Rattle.std.proofs.lemmas.Result.{IfErr-weaker}
use Rattle.core_nodes.proofs.OpenedLogs.{refused_making}
use Rattle.core_nodes.proofs.opening.open_stores.Goals as goal

pub returns-clause-refused : goal.returns-clause-refused
returns-clause-refused g c =
    let see = g.K.Keeper.state in
    IfErr-weaker c.make_stores.result _ _
    (λ r cause.
    refused_making g.K.Keeper.TELLS c.args.config.now c.args.line.now (see c.args.keepers.now) (see c.open_lines.new.keepers)
    (see c.make_stores.new.keepers) c.in_ok-open_lines.ensures.opened
    c.in_ok-open_lines.ensures.later c.make_stores.ensures.stays r cause)
    c.make_stores.ensures.refused
