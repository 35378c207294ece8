-- What is asked can be done.
use Rattle.std.proofs.Common.{◌≡◌, ℕ, true, false, Contains, List, Result, Ok, Err, IfOk, Option, Some, None, refl, subst, inl, inr}
use Rattle.std.specs.Prelude.{IsSome, is_some, not, ⊤}
use Rattle.std.proofs.lemmas.Bool.{cases_Bool}
use Rattle.outcomes.specs.Results.{◌>>=◌, Gives, refused_unless}
use Rattle.core_model.proofs.Turns.{cache_named}
use Rattle.core_model.specs.Evictions.{IsCacheOf}
use Rattle.core_model.specs.Fleet.{follower_names}
use Rattle.core_plans.specs.Held.{Plans, plan_at}
use Rattle.core_sessions.specs.Sessions.{Session, is_open}
use Rattle.node_name.specs.declared.NodeName.{NodeName}
use Rattle.node_name.specs.declared.NodeName.TheVariants as name
use Rattle.tao_base.specs.declared.query.Query.{Query}
use Rattle.tao_base.specs.declared.write.Write.{Write}
use Rattle.topology.proofs.Found.{follower_known, leader_known}
use Rattle.topology.specs.Config.{Settings}
use Rattle.replies.specs.declared.refusals.NameRefused.{NameRefused}
use Rattle.replies.specs.declared.refusals.Refusal.{Refusal}
use Rattle.requests.specs.declared.calls.Call.{Call}
use Rattle.requests.specs.declared.calls.Call.TheVariants as call
use Rattle.requests.specs.declared.calls.ReadCall.{ReadCall}
use Rattle.requests.specs.declared.calls.WriteCall.{WriteCall}
use Rattle.requests.specs.declared.plans.PlanRequest.{PlanRequest}
use Rattle.requests.specs.declared.plans.PlanRequest.TheVariants as plan
use Rattle.requests.specs.declared.request.Request.{Request}
use Rattle.requests.specs.declared.request.Request.TheVariants as request
use Rattle.request_check.proofs.Placing.{whatever}
use Rattle.request_check.specs.Caches.{checked_cache}
use Rattle.request_check.specs.Calls.{checked_call, checked_query, checked_write}
use Rattle.request_check.specs.Health.{checked_health}
use Rattle.request_check.specs.Links.{checked_link}
use Rattle.request_check.specs.Names.{placed_as, tier_named}
use Rattle.request_check.specs.Placed.{IsPlacedCall, IsPlacedFollower, IsPlacedNode}
use Rattle.request_check.specs.Plans.{IsPlacedPlan, checked_plan}
use Rattle.request_check.specs.Refusal.{for_name, replied, reply_unless_memory}
use Rattle.request_check.specs.Requests.{IsPlaced, checked_of}
use Rattle.request_check.specs.Stores.{checked_store}
use Rattle.request_check.specs.declared.checked.Checked.{Checked}
use Rattle.request_check.specs.declared.checked.Checked.TheVariants as checked
use Rattle.request_check.specs.declared.checked.CheckedCall.{CheckedCall}
use Rattle.request_check.specs.declared.checked.CheckedCall.TheVariants as of_call
use Rattle.request_check.specs.declared.plans.CheckedPlan.TheVariants as of_plan
use Rattle.request_check.specs.declared.refusal.CheckRefusal.{CheckRefusal}
use Rattle.tao_core.specs.Asked.{CallCanBeDone, CanBeDone, PlanCanBeDone, admitted, fresh_plan, fresh_session}
use Rattle.requests.specs.CallWords.{asking_session}
use Rattle.tao_core.specs.Asked.{open_session, plan_for, session_for}

-- ---- nodes

-- a cache node that is placed is one of the configuration's
pub cache_there : (s : Settings) (node : NodeName) → IsPlacedNode s node → IsCacheOf s node
cache_there s (name.Store store) here = absurd here
cache_there s (name.Leader region index) here = cache_named s (name.Leader region index) (leader_known s.regions region index here)
cache_there s (name.Follower region tier index) here =
    cache_named s (name.Follower region tier index) (follower_known s.regions region tier index here)

-- and so is a follower
pub follower_there : (s : Settings) (node : NodeName) → IsPlacedFollower s node → Contains (follower_names s) node
follower_there s (name.Store store) here = absurd here.configured
follower_there s (name.Leader region index) here = (let no : false ≡ true = here.follows in absurd (cc))
follower_there s (name.Follower region tier index) here = cache_there s (name.Follower region tier index) here.configured

-- ---- what is asked

-- a session that may be opened isn't open
not_open : (sessions : List Session) (session : ℕ) → fresh_session sessions session ≡ Ok tt → is_open sessions session ≡ false
not_open sessions session h = elim (cases_Bool (is_open sessions session)) [
  | inl is_so ↦ (let e = rw is_so at h in absurd (cc))
  | inr not_so ↦ not_so
]

-- a session that a call may name is open
is_so_open : (sessions : List Session) (session : ℕ) → open_session sessions session ≡ Ok tt → is_open sessions session ≡ true
is_so_open sessions session h = elim (cases_Bool (is_open sessions session)) [
  | inl is_so ↦ is_so
  | inr not_so ↦ (let e = rw not_so at h in absurd (cc))
]

none_found : {A : Type 0} (found : Option A) (there full : Refusal) (room : _)
    → (refused_unless there (not (is_some found)) >>= (λ x. refused_unless full room)) ≡ Ok tt → found ≡ None
none_found None there full room h = refl
none_found (Some x) there full room h = absurd (cc)

-- a plan that may be held isn't held
not_held : (plans : Plans) (plan : ℕ) → fresh_plan plans plan ≡ Ok tt → plan_at plans plan ≡ None
not_held plans plan h = none_found (plan_at plans plan) _ _ _ h

some_found : {A : Type 0} (found : Option A) (refusal : Refusal) → refused_unless refusal (is_some found) ≡ Ok tt → IsSome found
some_found None refusal h = absurd (cc)
some_found (Some x) refusal h = refl

-- the second of two steps passes as well as the first
both_pass : (first second : Result ⊤ Refusal) → (first >>= (λ x. second)) ≡ Ok tt → (first ≡ Ok tt) × (second ≡ Ok tt)
both_pass (Ok x) second h = (refl, h)
both_pass (Err refused) second h = absurd (cc)

-- a request that was admitted may name its plan and its session
rest_admitted : (sessions : List Session) (plans : Plans) (asked : Request) → admitted sessions plans asked ≡ Ok tt
    → (plan_for plans asked ≡ Ok tt) × (session_for sessions asked ≡ Ok tt)
rest_admitted sessions plans asked h =
    both_pass (plan_for plans asked) (session_for sessions asked) h

module _ (s : Settings) (sessions : List Session) (plans : Plans) where
  write_can : (text : WriteCall) (found : Result Write NameRefused) → is_open sessions text.session ≡ true
      → IfOk (found >>= (λ w. Ok (record { session = text.session; seq = text.seq; write = w })) >>= (λ c. Ok (of_call.Write c)))
      (λ c. IsPlacedCall s c → CallCanBeDone s sessions c)
  write_can text (Ok w) there = λ here. (here, there)
  write_can text (Err refused) there = tt

  read_can : (text : ReadCall) (found : Result Query NameRefused) → is_open sessions text.session ≡ true
      → IfOk (found >>= (λ q. Ok (record { session = text.session; query = q; critical = text.critical })) >>= (λ c. Ok (of_call.Read c)))
      (λ c. IsPlacedCall s c → CallCanBeDone s sessions c)
  read_can text (Ok q) there = λ here. (here, there)
  read_can text (Err refused) there = tt

  -- a call that may be made, as it is checked
  call_can : (asked : Call) → is_open sessions (asking_session asked) ≡ true → IfOk (checked_call s asked) (λ c. IsPlacedCall s c → CallCanBeDone s sessions c)
  call_can (call.Write text) there = write_can text (checked_write s text.write) there
  call_can (call.Read text) there = read_can text (checked_query s text.query) there

  hold_can : (number : ℕ) (found : Result CheckedCall NameRefused) → plan_at plans number ≡ None
      → IfOk found (λ c. IsPlacedCall s c → CallCanBeDone s sessions c)
      → IfOk (placed_as (λ c. of_plan.Hold number c) found) (λ c. IsPlacedPlan s c → PlanCanBeDone s sessions plans c)
  hold_can number (Ok c) none can = λ here. (none, can here)
  hold_can number (Err refused) none can = tt

  -- what is asked of a plan, as it is checked
  plan_can : (asked : PlanRequest) → plan_for plans (request.Plan asked) ≡ Ok tt → session_for sessions (request.Plan asked) ≡ Ok tt
      → IfOk (checked_plan s asked) (λ c. IsPlacedPlan s c → PlanCanBeDone s sessions plans c)
  plan_can (plan.Hold number asked) free there =
      hold_can number (checked_call s asked) (not_held plans number free) (call_can asked (is_so_open sessions (asking_session asked) there))
  plan_can (plan.Advance number) held there = λ here. some_found (plan_at plans number) _ held

  -- what a family asks is done where it can be
  family_can : {A : Type 0} (asks : A → Checked) (found : Result A NameRefused) → IfOk found (λ c. IsPlaced s (asks c) → CanBeDone s sessions plans (asks c))
      → IfOk (placed_as asks found) (λ c. IsPlaced s c → CanBeDone s sessions plans c)
  family_can asks (Ok c) can = can
  family_can asks (Err refused) can = tt

  -- and where nothing is known but its place, that is enough
  always_can : {A : Type 0} (asks : A → Checked) (found : Result A NameRefused) → ((c : A) → IsPlaced s (asks c) → CanBeDone s sessions plans (asks c))
      → IfOk (placed_as asks found) (λ c. IsPlaced s c → CanBeDone s sessions plans c)
  always_can asks (Ok c) can = can c
  always_can asks (Err refused) can = tt

  -- what is placed, of a request that was admitted
  by_family : (asked : Request) → admitted sessions plans asked ≡ Ok tt → IfOk (checked_of s asked) (λ c. IsPlaced s c → CanBeDone s sessions plans c)
  by_family (request.Open opening) h =
      whatever _ (tier_named s opening.region opening.tier) _ (λ found here. (not_open sessions opening.session h, here.configured))
  by_family (request.Call asked) h =
      family_can checked.Call (checked_call s asked)
      (call_can asked (is_so_open sessions (asking_session asked) (rest_admitted sessions plans (request.Call asked) h).1))
  by_family (request.Plan asked) h =
      let rest = rest_admitted sessions plans (request.Plan asked) h in
      family_can checked.Plan (checked_plan s asked) (plan_can asked rest.0 rest.1)
  by_family (request.Cache asked) h = always_can checked.Cache (checked_cache s asked) (λ c here. here)
  by_family (request.Store asked) h = always_can checked.Store (checked_store s asked) (λ c here. here)
  by_family (request.Health asked) h = always_can checked.Health (checked_health s asked) (λ c here. here)
  by_family (request.Link asked) h = always_can checked.Link (checked_link s asked) (λ c here. tt)

named_ok : (found : Result Checked NameRefused) (c : Checked) → replied (for_name found) ≡ Ok c → found ≡ Ok c
named_ok (Ok x) c h = cc
named_ok (Err refused) c h = absurd (cc)

-- what a request that was admitted is checked to can be done
pub checked_can : (s : Settings) (sessions : List Session) (plans : Plans) (asked : Request) (r : Result Checked CheckRefusal)
    → admitted sessions plans asked ≡ Ok tt → Gives reply_unless_memory r (replied (for_name (checked_of s asked))) → IfOk r (IsPlaced s)
    → IfOk r (CanBeDone s sessions plans)
checked_can s sessions plans asked (Ok c) there h here =
    (subst (λ r. IfOk r (λ x. IsPlaced s x → CanBeDone s sessions plans x)) (named_ok (checked_of s asked) c h) (by_family s sessions plans asked there)) here
checked_can s sessions plans asked (Err e) there h here = tt
