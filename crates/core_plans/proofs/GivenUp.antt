-- A plan whose session may be about to learn ends in place of its next stage, since there is no memory.
use Rattle.std.proofs.Common.{◌≡◌, refl}
use Rattle.std.specs.Prelude.{IsSome}
use Rattle.core_plans.specs.Held.{writer_at}
use Rattle.tao_base.specs.declared.entry.Origin.{Origin}
use Rattle.write_plan.specs.declared.stage.WriteStage.{WriteStage}
use Rattle.write_plan.specs.declared.stage.WriteStage.TheVariants.{Commit, Inverse, End, Relay, Apply, Done}

-- a write whose session learns has only its last stage left
pub learns_last : (next : WriteStage) (origin : Origin) → IsSome (writer_at next origin) → next ≡ Apply
learns_last Apply origin is = refl
learns_last Commit origin is = absurd (cc)
learns_last Inverse origin is = absurd (cc)
learns_last End origin is = absurd (cc)
learns_last Relay origin is = absurd (cc)
learns_last Done origin is = absurd (cc)
