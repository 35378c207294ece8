use Rattle.std.proofs.Common.{Err, ap, subst, sym}
use Rattle.locked_nodes.proofs.core_nodes_lemmas.OpenLemmas.{opened_kept}
use Rattle.locked_nodes.specs.core_nodes.Opening.{RefusesOpening}
use Rattle.cluster_opening.proofs.OpenedOver.{opened_over, refused_over}
use Rattle.cluster_opening.proofs.opening.open_over.Goals as goal

pub returns-in-Ok-clause-opened : goal.returns-in-Ok-clause-opened
returns-in-Ok-clause-opened g c =
    let see = g.K.Keeper.state in
    opened_over g.K.Keeper.TELLS c.args.config.now c.args.line.now (see c.args.keepers.now) (see c.open.new.keepers) (see c.cuts_of.new.keepers)
    c.in_ok-fleet.ensures.opened c.in-Ok.ensures.stays c.in_ok-fleet.fleet c.in-Ok.cuts.items c.requires.jobs c.in_ok-fleet.ensures.consistent
    c.in-Ok.ensures.cuts

pub returns-in-Ok-clause-begun : goal.returns-in-Ok-clause-begun
returns-in-Ok-clause-begun g c = λ told.
    opened_kept c.args.config.now c.args.line.now (g.K.Keeper.state c.args.keepers.now).told (g.K.Keeper.state c.open.new.keepers).told
    (g.K.Keeper.state c.cuts_of.new.keepers).told (c.in_ok-fleet.ensures.opened told) (c.in-Ok.ensures.stays told)

pub returns-in-Err-clause-refused : goal.returns-in-Err-clause-refused
returns-in-Err-clause-refused g c =
    let see = g.K.Keeper.state in
    subst (RefusesOpening g.K.Keeper.TELLS c.args.config.now c.args.line.now (see c.args.keepers.now) (see c.cuts_of.new.keepers))
    (sym c.refusal_of.ensures)
    (refused_over g.K.Keeper.TELLS c.args.config.now c.args.line.now (see c.args.keepers.now) (see c.open.new.keepers) (see c.cuts_of.new.keepers)
    c.in_ok-fleet.ensures.opened c.in-Err.ensures.stays c.in_ok-fleet.ensures.later c.in-Err.fail (λ same. c.in-Err.ensures.calls.failed (ap Err same)))
