-- A call that isn't held: its plan does its stages, one after another, until none is left.
use Rattle.std.specs.Prelude.{ℕ, zero, suc, ◌≡◌, None}
use Rattle.core_plans.specs.Held.{IsUnderWay, StepsHeld, next_stage}
use Rattle.core_plans.specs.LedBy.{Rules}
use Rattle.core_plans.specs.declared.held.HeldPlan.{HeldPlan}
use Rattle.core_plans.specs.declared.held.HeldPlan.TheVariants.{Read, Write}
use Rattle.core_steps.specs.Posting.{PostsOn}
use Rattle.core_steps.specs.World.{World}
use Rattle.read_plan.specs.Standings.{stage_of}
use Rattle.read_plan.specs.declared.stages.ReadStage.{ReadStage}
use Rattle.read_plan.specs.declared.stages.ReadStage.TheVariants as reads
use Rattle.write_plan.specs.Plans.{next_of}
use Rattle.write_plan.specs.declared.stage.WriteStage.{WriteStage}
use Rattle.write_plan.specs.declared.stage.WriteStage.TheVariants as writes

-- a plan did a stage: it can go on, and so can all else
pub record PassesStage (rules : Rules) (p : HeldPlan) (old : World) (q : HeldPlan) (new : World) : Type 0 where
  pub steps : StepsHeld rules p old q new
  pub under_way : IsUnderWay rules.tells rules.settings new.keepers.told new.fleet q
  pub on : PostsOn rules.tells rules.settings old new

-- so many stages of a plan, each beginning as the one before it left things
abbrev pub PassesStages : Rules → ℕ → HeldPlan → World → HeldPlan → World → Type 0
PassesStages rules zero p old q new = (q ≡ p) × (new ≡ old)
PassesStages rules (suc n) p old q new = (m : HeldPlan) × (x : World) × PassesStages rules n p old m x × PassesStage rules m x q new

-- all stages of a plan, one after another, and nothing between them
pub record CarriesOut (rules : Rules) (p : HeldPlan) (old : World) (q : HeldPlan) (new : World) : Type 0 where
  pub stages : ℕ
  pub passes : PassesStages rules stages p old q new
  pub over : next_stage q ≡ None

-- how many stages a read has left at most, from the one that follows on
abbrev pub read_stages_left : ReadStage → ℕ
read_stages_left reads.Look = 4
read_stages_left reads.Ask = 3
read_stages_left reads.Master = 2
read_stages_left reads.Keep = 1
read_stages_left reads.Done = 0

-- how many stages a write has left at most, from the one that follows on
abbrev pub write_stages_left : WriteStage → ℕ
write_stages_left writes.Commit = 5
write_stages_left writes.Inverse = 4
write_stages_left writes.End = 3
write_stages_left writes.Relay = 2
write_stages_left writes.Apply = 1
write_stages_left writes.Done = 0

-- how many stages a plan has left at most
abbrev pub stages_left : HeldPlan → ℕ
stages_left (Read p) = read_stages_left (stage_of p.at)
stages_left (Write p) = write_stages_left (next_of p)
