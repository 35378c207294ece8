-- Plans by their numbers, of which one changes.
use Rattle.std.proofs.Common.{◌≡◌, ◌∙◌, ℕ, Bool, cond, refl, sym, ap, subst}
use Rattle.std.specs.BTreeMap.{BTreeMap, WritesThrough, get}
use Rattle.std.specs.Ordering.{nat_cmp}
use Rattle.std.specs.Prelude.{IsSome, Some}
use Rattle.core_plans.specs.Held.{ChangesPlan, GivesUp, GivesUpPlan, Plans, StepsHeld, StepsPlan, learner, plan_at}
use Rattle.core_plans.specs.declared.held.HeldPlan.{HeldPlan}
use Rattle.core_plans.specs.LedBy.{rules_of}
use Rattle.core_steps.specs.World.{World}
use Rattle.topology.specs.Config.{Settings}
use Rattle.tao_base.proofs.Tests.{same_order}

changes_plan : (number : ℕ) (after : HeldPlan) (old new : BTreeMap ℕ HeldPlan) → IsSome (get nat_cmp old number)
    → WritesThrough nat_cmp (nat_cmp number) old after new → ChangesPlan number after old.entries new.entries
changes_plan number after old new there writes = record {
  sets = λ other. (writes.3 there).0 other ∙ ap (λ b. cond b (Some after) (plan_at old.entries other)) (same_order number other);
  count = writes.2;
}

-- the plan that was found did a stage, and was written back
pub steps_plan : (tells : Bool) (s : Settings) (number : ℕ) (plans : Plans) (map later : BTreeMap ℕ HeldPlan) (before after : HeldPlan)
    (old new : World) → map.entries ≡ plans → Some before ≡ get nat_cmp map number → StepsHeld (rules_of tells s) before old after new
    → WritesThrough nat_cmp (nat_cmp number) map after later → StepsPlan (rules_of tells s) number plans old later.entries new
steps_plan tells s number plans map later before after old new is found steps writes =
    subst (λ seen. StepsPlan (rules_of tells s) number seen old later.entries new) is (record {
      before = before;
      after = after;
      stands = sym found;
      steps = steps;
      changes = changes_plan number after map later (subst IsSome found refl) writes;
    })

-- the plan that was found was given up, and written back
pub gives_up_plan : (number : ℕ) (plans : Plans) (map later : BTreeMap ℕ HeldPlan) (before after : HeldPlan) (old new : World) → map.entries ≡ plans
    → Some before ≡ get nat_cmp map number → IsSome (learner before) → GivesUp before old after new
    → WritesThrough nat_cmp (nat_cmp number) map after later → GivesUpPlan number plans old later.entries new
gives_up_plan number plans map later before after old new is found last gives writes =
    subst (λ seen. GivesUpPlan number seen old later.entries new) is (record {
      before = before;
      after = after;
      stands = sym found;
      last = last;
      gives = gives;
      changes = changes_plan number after map later (subst IsSome found refl) writes;
    })
