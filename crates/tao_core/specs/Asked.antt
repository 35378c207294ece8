-- What a request asks of the core, or why it is refused before any table is looked at.
use Rattle.std.specs.Prelude.{ℕ, ◌≡◌, ◌<◌, true, false, IsSome, List, None, is_some, length, Result, Ok, ⊤, nat_lt, not}
use Rattle.outcomes.specs.Results.{◌>>=◌, refused_unless}
use Rattle.tao_base.specs.Queries.{query_key}
use Rattle.topology.specs.Config.{Settings}
use Rattle.requests.specs.CallWords.{asking_session}
use Rattle.requests.specs.declared.calls.Call.{Call}
use Rattle.requests.specs.declared.plans.PlanRequest.{PlanRequest}
use Rattle.requests.specs.declared.plans.PlanRequest.TheVariants as plan
use Rattle.requests.specs.declared.request.Request.{Request}
use Rattle.requests.specs.declared.request.Request.TheVariants as request
use Rattle.replies.specs.declared.refusals.Refusal.{Refusal}
use Rattle.replies.specs.declared.refusals.Refusal.TheVariants.{Plan}
use Rattle.replies.specs.declared.refusals.Refusal.TheVariants as refused
use Rattle.replies.specs.declared.refusals.PlanRefused.TheVariants.{NoPlan, PlanThere, PlanFull}
use Rattle.replies.specs.declared.refusals.SessionRefused.TheVariants.{NoSession, SessionThere, SessionFull}
use Rattle.core_plans.specs.Held.{Plans, plan_at, plan_count}
use Rattle.core_sessions.specs.Sessions.{Session, is_open, most_sessions}
use Rattle.request_check.specs.Caches.{IsPlacedCache}
use Rattle.request_check.specs.Health.{IsPlacedHealth}
use Rattle.request_check.specs.Placed.{IsPlacedKey, IsPlacedWrite}
use Rattle.request_check.specs.Refusal.{for_name}
use Rattle.request_check.specs.Requests.{checked_of}
use Rattle.request_check.specs.Stores.{IsPlacedStore}
use Rattle.request_check.specs.declared.checked.Checked.{Checked}
use Rattle.request_check.specs.declared.checked.Checked.TheVariants as checked
use Rattle.request_check.specs.declared.checked.CheckedCall.{CheckedCall}
use Rattle.request_check.specs.declared.checked.CheckedCall.TheVariants as checked_call
use Rattle.request_check.specs.declared.plans.CheckedPlan.{CheckedPlan}
use Rattle.request_check.specs.declared.plans.CheckedPlan.TheVariants as checked_plan

-- ---- plans

-- how many plans may be held
abbrev pub most_plans : ℕ
most_plans = 512

-- a plan that is advanced is held
abbrev pub held_plan : Plans → ℕ → Result ⊤ Refusal
held_plan plans number = refused_unless (Plan (NoPlan number)) (is_some (plan_at plans number))

-- a plan that is to be held isn't held yet, and there is room for one
abbrev pub fresh_plan : Plans → ℕ → Result ⊤ Refusal
fresh_plan plans number = do
  new ← refused_unless (Plan (PlanThere number)) (not (is_some (plan_at plans number)))
  refused_unless (Plan (PlanFull (plan_count plans))) (nat_lt (plan_count plans) most_plans)

-- a plan that a call is held under is a new one, and one that is advanced is held
abbrev pub named_plan : Plans → PlanRequest → Result ⊤ Refusal
named_plan plans (plan.Hold number asked) = fresh_plan plans number
named_plan plans (plan.Advance number) = held_plan plans number

-- nothing but what is asked of plans names a plan
abbrev pub plan_for : Plans → Request → Result ⊤ Refusal
plan_for plans (request.Plan asked) = named_plan plans asked
plan_for plans other = Ok tt

-- ---- sessions

-- a call is of an open session
abbrev pub open_session : List Session → ℕ → Result ⊤ Refusal
open_session sessions session = refused_unless (refused.Session (NoSession session)) (is_open sessions session)

-- a session that is to be opened isn't open yet, and there is room for one
abbrev pub fresh_session : List Session → ℕ → Result ⊤ Refusal
fresh_session sessions session = do
  new ← refused_unless (refused.Session (SessionThere session)) (not (is_open sessions session))
  refused_unless (refused.Session (SessionFull (length sessions))) (nat_lt (length sessions) most_sessions)

-- nothing but calls, held or not, and `open` names a session
abbrev pub session_for : List Session → Request → Result ⊤ Refusal
session_for sessions (request.Open opening) = fresh_session sessions opening.session
session_for sessions (request.Call asked) = open_session sessions (asking_session asked)
session_for sessions (request.Plan (plan.Hold number asked)) = open_session sessions (asking_session asked)
session_for sessions other = Ok tt

-- ---- requests

-- a plan is refused first, and then a session
abbrev pub admitted : List Session → Plans → Request → Result ⊤ Refusal
admitted sessions plans asked = do
  held ← plan_for plans asked
  session_for sessions asked

-- what the request asks, with places in place of names
abbrev pub asked_of : Settings → List Session → Plans → Request → Result Checked Refusal
asked_of s sessions plans asked = do
  there ← admitted sessions plans asked
  for_name (checked_of s asked)

-- a call is of a configured shard and an open session
abbrev pub CallCanBeDone : Settings → List Session → CheckedCall → Type 0
CallCanBeDone s sessions (checked_call.Write call) = IsPlacedWrite s call.write × (is_open sessions call.session ≡ true)
CallCanBeDone s sessions (checked_call.Read call) = IsPlacedKey s (query_key call.query) × (is_open sessions call.session ≡ true)

-- a plan that a call is held under isn't held yet, and the call can be done; one that is advanced is held
abbrev pub PlanCanBeDone : Settings → List Session → Plans → CheckedPlan → Type 0
PlanCanBeDone s sessions plans (checked_plan.Hold number asked) = (plan_at plans number ≡ None) × CallCanBeDone s sessions asked
PlanCanBeDone s sessions plans (checked_plan.Advance number) = IsSome (plan_at plans number)

-- what is asked is served, each shard, key and node is configured, and a session that is to be opened isn't open, and is of a region
abbrev pub CanBeDone : Settings → List Session → Plans → Checked → Type 0
CanBeDone s sessions plans (checked.Open session region tier) = (is_open sessions session ≡ false) × (region < length s.regions)
CanBeDone s sessions plans (checked.Call asked) = CallCanBeDone s sessions asked
CanBeDone s sessions plans (checked.Plan asked) = PlanCanBeDone s sessions plans asked
CanBeDone s sessions plans (checked.Cache asked) = IsPlacedCache s asked
CanBeDone s sessions plans (checked.Store asked) = IsPlacedStore s asked
CanBeDone s sessions plans (checked.Health asked) = IsPlacedHealth s asked
CanBeDone s sessions plans (checked.Link asked) = ⊤
