-- What is asked of held plans.
use Rattle.std.specs.Prelude.{ℕ, Result, Ok, ⊤}
use Rattle.topology.specs.Config.{Settings}
use Rattle.replies.specs.declared.refusals.NameRefused.{NameRefused}
use Rattle.requests.specs.declared.plans.PlanRequest.{PlanRequest}
use Rattle.requests.specs.declared.plans.PlanRequest.TheVariants as request
use Rattle.request_check.specs.declared.plans.CheckedPlan.{CheckedPlan}
use Rattle.request_check.specs.declared.plans.CheckedPlan.TheVariants as checked
use Rattle.request_check.specs.Calls.{checked_call}
use Rattle.request_check.specs.Names.{placed_as}
use Rattle.request_check.specs.Placed.{IsPlacedCall}
use Rattle.outcomes.specs.Results.{◌>>=◌}

-- what is asked of a plan, with the types of a held call looked up by name; whether the plan's number is free or held isn't looked at
abbrev pub checked_plan : Settings → PlanRequest → Result CheckedPlan NameRefused
checked_plan s (request.Hold plan call) = placed_as (λ held. checked.Hold plan held) (checked_call s call)
checked_plan s (request.Advance plan) = Ok (checked.Advance plan)

-- the shard of a call that is held is one of the configuration's, and a change of an edge's type really changes it
abbrev pub IsPlacedPlan : Settings → CheckedPlan → Type 0
IsPlacedPlan s (checked.Hold plan call) = IsPlacedCall s call
IsPlacedPlan s (checked.Advance plan) = ⊤
