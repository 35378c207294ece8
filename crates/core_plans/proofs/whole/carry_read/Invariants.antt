use Rattle.core_plans.proofs.InTurn.{CarriesOn}
use Rattle.core_plans.specs.LedBy.{rules_of}
use Rattle.core_plans.specs.WholeCalls.{stages_left}
use Rattle.core_plans.specs.declared.held.HeldPlan.TheVariants.{Read}
use Rattle.core_steps.specs.World.{world}
use Rattle.core_plans.proofs.whole.carry_read.Given as goal

-- so many stages were done, and the read can go on
abbrev pub invariant-loop-nodes : goal.invariant-loop-nodes
invariant-loop-nodes g l =
    let keepers = g.K.Keeper.state in
    let shown = g.L.Link.shown in
    CarriesOn (rules_of g.K.Keeper.TELLS l.config) (Read l.fn.plan) (world l.fn.nodes (keepers l.fn.keepers) (shown l.fn.link))
    (Read l.plan) (world l.nodes (keepers l.keepers) (shown l.link))

abbrev pub decreases-loop-nodes : goal.decreases-loop-nodes
decreases-loop-nodes g l = stages_left (Read l.plan)
