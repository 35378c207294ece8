-- What a step does to its link: no count falls, and what is cut stays so.
use Rattle.std.proofs.Common.{◌≡◌, Result, Ok, Err, refl, sym, ◌∙◌, subst, inl, inr, arith}
use Rattle.std.specs.Prelude.{IfErr, OnErr, OnOk, ⊤}
use Rattle.counts.proofs.Rises.{Rose-le}
use Rattle.core_nodes.specs.Settling.{IsLaterLink}
use Rattle.core_nodes.specs.edge_repair.Carries.{FailsAt}
use Rattle.node_name.specs.declared.NodeName.{NodeName}
use Rattle.tao_link.specs.Shown.{LinkShown, after_carry}
use Rattle.tao_link.specs.declared.link.Carry.{Carry}
use Rattle.tao_link.specs.declared.link.LinkFailed.{LinkFailed}
use Rattle.core_steps.specs.OtherEnds.{Crosses, FailsToCross}
use Rattle.core_steps.specs.Routes.{FailsCarry, there_and_back}

pub link_self : (link : LinkShown) → IsLaterLink link link
link_self link = record { carries = omega arith; faults = omega arith; cuts = refl }

pub link_stays : (old new : LinkShown) → new ≡ old → IsLaterLink old new
link_stays old new same = subst (IsLaterLink old) (sym same) (link_self old)

pub link_trans : (a b c : LinkShown) → IsLaterLink a b → IsLaterLink b c → IsLaterLink a c
link_trans a b c p q = record {
  carries = let one = p.carries in let two = q.carries in omega arith;
  faults = let one = p.faults in let two = q.faults in omega arith;
  cuts = q.cuts ∙ p.cuts;
}

carried_once : (link : LinkShown) → IsLaterLink link (after_carry link)
carried_once link = record { carries = omega arith; faults = omega arith; cuts = refl }

-- a carry that succeeded
pub carried_on : (old new : LinkShown) → new ≡ after_carry old → IsLaterLink old new
carried_on old new is = subst (IsLaterLink old) (sym is) (carried_once old)

-- two that did
pub both_carries : (old new : LinkShown) → new ≡ there_and_back old → IsLaterLink old new
both_carries old new is =
    subst (IsLaterLink old) (sym is) (link_trans old (after_carry old) (there_and_back old) (carried_once old) (carried_once (after_carry old)))

-- one that failed
pub failed_carry : (at : Carry) (old new : LinkShown) → FailsAt at old new → IsLaterLink old new
failed_carry at old new fails =
    record { carries = let is = fails.counted in omega arith; faults = Rose-le old.faults new.faults fails.rose; cuts = fails.cuts }

-- one that succeeded, and then one that failed
pub failed_back : (at : Carry) (old new : LinkShown) → FailsAt at (after_carry old) new → IsLaterLink old new
failed_back at old new fails = link_trans old (after_carry old) new (carried_once old) (failed_carry at (after_carry old) new fails)

-- a carry, whichever way it went
pub went_on : {T E : Type 0} (from to : NodeName) (old new : LinkShown) (result : Result T E) → OnOk result (new ≡ after_carry old)
    → IfErr result (λ _. FailsCarry from to old new) → IsLaterLink old new
went_on from to old new (Ok done) there fails = carried_on old new there
went_on from to old new (Err lost) there fails = failed_carry _ old new fails

-- ---- carries between nodes that may be one

pub crossed_on : (from to : NodeName) (old new : LinkShown) → Crosses from to old new → IsLaterLink old new
crossed_on from to old new (inl here) = link_stays old new here.1
crossed_on from to old new (inr there) = carried_on old new there.1

pub not_crossed_on : (from to : NodeName) (old new : LinkShown) → FailsToCross from to old new → IsLaterLink old new
not_crossed_on from to old new fails = failed_carry _ old new fails.1

-- however the carry went
pub back_on : (from to : NodeName) (old new : LinkShown) (back : Result ⊤ LinkFailed) → OnOk back (Crosses from to old new)
    → OnErr back (FailsToCross from to old new) → IsLaterLink old new
back_on from to old new (Ok done) crosses fails = crossed_on from to old new crosses
back_on from to old new (Err lost) crosses fails = not_crossed_on from to old new fails
