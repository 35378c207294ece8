-- What each stage of a plan keeps, all of its stages keep.
use Rattle.std.proofs.Common.{ℕ, zero, suc, sym, subst}
use Rattle.core_plans.specs.LedBy.{Rules}
use Rattle.core_plans.specs.WholeCalls.{PassesStage, PassesStages}
use Rattle.core_plans.specs.declared.held.HeldPlan.{HeldPlan}
use Rattle.core_plans.specs.declared.held.HeldPlan.TheVariants.{Read, Write}
use Rattle.core_steps.specs.World.{World}
use Rattle.read_plan.specs.Readings.{Reading}
use Rattle.write_plan.specs.Plans.{Writing}

-- the plan is a read of which that is so
abbrev pub OfRead : (Reading → World → Type 0) → HeldPlan → World → Type 0
OfRead P (Read q) now = P q now
OfRead P (Write q) now = ⊥

-- the plan is a write of which that is so
abbrev pub OfWrite : (Writing → World → Type 0) → HeldPlan → World → Type 0
OfWrite P (Write q) now = P q now
OfWrite P (Read q) now = ⊥

module _ (rules : Rules) (P : Reading → World → Type 0)
    (keeps : (p q : Reading) (old new : World) → P p old → PassesStage rules (Read p) old (Read q) new → P q new) where
  read_stage_keeps : (m q : HeldPlan) (old new : World) → OfRead P m old → PassesStage rules m old q new → OfRead P q new
  read_stage_keeps (Read p) (Read q) old new is stage = keeps p q old new is stage
  read_stage_keeps (Read p) (Write q) old new is stage = absurd stage.steps
  read_stage_keeps (Write p) q old new is stage = absurd is

  pub read_keeps : (n : ℕ) (p : Reading) (q : HeldPlan) (old new : World) → P p old → PassesStages rules n (Read p) old q new → OfRead P q new
  read_keeps zero p q old new is passes =
      subst (λ x. OfRead P q x) (sym passes.1) (subst (λ m. OfRead P m old) (sym passes.0) is)
  read_keeps (suc n) p q old new is passes =
      read_stage_keeps passes.0 q passes.1 new (read_keeps n p passes.0 old passes.1 is passes.2) passes.3

module _ (rules : Rules) (P : Writing → World → Type 0)
    (keeps : (p q : Writing) (old new : World) → P p old → PassesStage rules (Write p) old (Write q) new → P q new) where
  write_stage_keeps : (m q : HeldPlan) (old new : World) → OfWrite P m old → PassesStage rules m old q new → OfWrite P q new
  write_stage_keeps (Write p) (Write q) old new is stage = keeps p q old new is stage
  write_stage_keeps (Write p) (Read q) old new is stage = absurd stage.steps
  write_stage_keeps (Read p) q old new is stage = absurd is

  pub write_keeps : (n : ℕ) (p : Writing) (q : HeldPlan) (old new : World) → P p old → PassesStages rules n (Write p) old q new → OfWrite P q new
  write_keeps zero p q old new is passes =
      subst (λ x. OfWrite P q x) (sym passes.1) (subst (λ m. OfWrite P m old) (sym passes.0) is)
  write_keeps (suc n) p q old new is passes =
      write_stage_keeps passes.0 q passes.1 new (write_keeps n p passes.0 old passes.1 is passes.2) passes.3
