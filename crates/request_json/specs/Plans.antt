-- The requests about held plans: the fields of each, in their order.
use Rattle.std.specs.Prelude.{ℕ, ◌^◌, ◌-◌, [], ◌∷◌, codes, Result, Ok}
use Rattle.serde_json.specs.Data.{Data}
use Rattle.request_json.specs.declared.refusal.LineRefusal.{LineRefusal}
use Rattle.requests.specs.declared.plans.PlanRequest.{PlanRequest}
use Rattle.requests.specs.declared.plans.PlanRequest.TheVariants as request
use Rattle.words.specs.declared.PlanWord.{PlanWord}
use Rattle.words.specs.declared.PlanWord.TheVariants.{Hold, Advance}
use Rattle.request_json.specs.Fields.{number_field, only_fields}
use Rattle.request_json.specs.Inner.{asked_within, call_by, inner_field}
use Rattle.request_json.specs.Word.{word_of}
use Rattle.outcomes.specs.Results.{◌>>=◌}

-- the number of a held plan, from 0 to 2^32 - 1
abbrev pub plan_field : Data → Result ℕ LineRefusal
plan_field d = number_field (codes "plan") 0 (2 ^ 32 - 1) d

-- the fields of `hold`: a plan's number, and the call that is held under it
abbrev pub hold_of : Data → Result PlanRequest LineRefusal
hold_of d = do
  plan ← plan_field d
  inner ← inner_field d
  call ← asked_within (codes "do" ∷ codes "plan" ∷ codes "request" ∷ []) d (call_by (word_of inner) inner)
  Ok (request.Hold plan call)

-- the fields of `advance`: the number of the plan that goes one stage on
abbrev pub advance_of : Data → Result PlanRequest LineRefusal
advance_of d = do
  plan ← plan_field d
  known ← only_fields (codes "do" ∷ codes "plan" ∷ []) d
  Ok (request.Advance plan)

-- what is asked of a plan: each word has its row
abbrev pub planning_of : PlanWord → Data → Result PlanRequest LineRefusal
planning_of Hold d = hold_of d
planning_of Advance d = advance_of d
