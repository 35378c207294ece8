-- Why a request is refused before anything is done, and what kind of request asks what.
use Rattle.std.proofs.Common.{◌≡◌, ℕ, Bool, true, false, List, Option, Some, None, Result, Ok, Err, refl, sym, ap, ◌∙◌, subst, inl, inr}
use Rattle.std.proofs.lemmas.Bool.{ltb-false}
use Rattle.std.specs.Prelude.{IfOk, ◌⊎◌, ⊤, IsSome, is_some, length, nat_lt, not}
use Rattle.core_plans.specs.Held.{Plans, plan_at, plan_count}
use Rattle.core_sessions.specs.Sessions.{Session, is_open, most_sessions}
use Rattle.outcomes.specs.Results.{◌>>=◌, refused_unless}
use Rattle.replies.specs.declared.refusals.NameRefused.{NameRefused}
use Rattle.replies.specs.declared.refusals.PlanRefused.TheVariants.{NoPlan, PlanFull, PlanThere}
use Rattle.replies.specs.declared.refusals.Refusal.{Refusal}
use Rattle.replies.specs.declared.refusals.Refusal.TheVariants.{Name, Plan, Session as OfSession}
use Rattle.replies.specs.declared.refusals.SessionRefused.TheVariants.{NoSession, SessionFull, SessionThere}
use Rattle.request_check.specs.Calls.{checked_call, checked_read_call}
use Rattle.request_check.specs.Caches.{checked_cache}
use Rattle.request_check.specs.Health.{checked_health}
use Rattle.request_check.specs.Links.{checked_link}
use Rattle.request_check.specs.Names.{configured_shard, placed_as, store_named, tier_named}
use Rattle.request_check.specs.Plans.{checked_plan}
use Rattle.request_check.specs.Refusal.{for_name}
use Rattle.request_check.proofs.PlacingRequests.{placed}
use Rattle.request_check.specs.Requests.{IsPlaced, checked_of}
use Rattle.request_check.specs.Stores.{checked_store}
use Rattle.request_check.specs.declared.checked.Checked.{Checked}
use Rattle.request_check.specs.declared.checked.Checked.TheVariants as asked
use Rattle.request_check.specs.declared.stores.CheckedStore.{CheckedStore}
use Rattle.request_check.specs.declared.stores.CheckedStore.TheVariants as of_store
use Rattle.requests.specs.declared.plans.PlanRequest.TheVariants as plan
use Rattle.requests.specs.declared.request.Request.{Request}
use Rattle.requests.specs.declared.request.Request.TheVariants as request
use Rattle.requests.specs.declared.stores.StoreRequest.{StoreRequest}
use Rattle.requests.specs.declared.stores.StoreRequest.TheVariants as store
use Rattle.tao_core.specs.Asked.{admitted, asked_of, fresh_plan, most_plans, plan_for, session_for}
use Rattle.requests.specs.CallWords.{asking_session}
use Rattle.tao_core.specs.Core.{Moment}
use Rattle.topology.specs.Config.{Settings}
use Rattle.headline_kept.specs.Causes.{HasCause, PlanCause, SessionCause}
use Rattle.headline_kept.specs.Histories.{may_have_written, stops_repair, stops_settle}
use Rattle.headline_kept.specs.Standing.{Asks}
use Rattle.plain_promise.specs.Promise.{refused_at}

-- ---- tests

-- a test that refuses is false, and its refusal is this
unless_fails : (refused told : Refusal) (test : Bool) → refused_unless refused test ≡ Err told → (test ≡ false) × (told ≡ refused)
unless_fails refused told true is = absurd (cc)
unless_fails refused told false is = (refl, cc)

-- of two steps the first refuses, or the second
then_fails : {A B : Type 0} (first : Result A Refusal) (second : Result B Refusal) (told : Refusal) → (first >>= (λ x. second)) ≡ Err told
    → (first ≡ Err told) ⊎ (second ≡ Err told)
then_fails (Ok x) second told is = inr is
then_fails (Err refused) second told is = inl (cc)

is_there : {A : Type 0} (found : Option A) → not (is_some found) ≡ false → IsSome found
is_there None is = absurd (cc)
is_there (Some x) is = refl

is_none : {A : Type 0} (found : Option A) → is_some found ≡ false → found ≡ None
is_none None is = refl
is_none (Some x) is = absurd (cc)

is_true : (test : Bool) → not test ≡ false → test ≡ true
is_true true is = refl
is_true false is = absurd (cc)

-- ---- plans and sessions

-- a plan refuses with its cause
record PlanRefuses (plans : Plans) (asked : Request) (told : Refusal) : Type 0 where
  refused : _
  is : told ≡ Plan refused
  cause : PlanCause plans asked refused

record SessionRefuses (sessions : List Session) (asked : Request) (told : Refusal) : Type 0 where
  refused : _
  is : told ≡ OfSession refused
  cause : SessionCause sessions asked refused

fresh_fails : (plans : Plans) (number : ℕ) (made : _) (told : Refusal) → fresh_plan plans number ≡ Err told
    → PlanRefuses plans (request.Plan (plan.Hold number made)) told
fresh_fails plans number made told is = elim (then_fails (refused_unless (Plan (PlanThere number)) (not (is_some (plan_at plans number))))
    (refused_unless (Plan (PlanFull (plan_count plans))) (nat_lt (plan_count plans) most_plans)) told is) [
      | inl there ↦ (
          let by = unless_fails (Plan (PlanThere number)) told (not (is_some (plan_at plans number))) there in
          record { refused = PlanThere number; is = by.1; cause = (refl, is_there (plan_at plans number) by.0) }
          )
      | inr full ↦ (
          let by = unless_fails (Plan (PlanFull (plan_count plans))) told (nat_lt (plan_count plans) most_plans) full in
          record { refused = PlanFull (plan_count plans); is = by.1; cause = (refl, ltb-false (plan_count plans) most_plans by.0) }
          )
    ]

plan_fails : (plans : Plans) (asked : Request) (told : Refusal) → plan_for plans asked ≡ Err told → PlanRefuses plans asked told
plan_fails plans (request.Plan (plan.Hold number made)) told is = fresh_fails plans number made told is
plan_fails plans (request.Plan (plan.Advance number)) told is =
    let by = unless_fails (Plan (NoPlan number)) told (is_some (plan_at plans number)) is in
    record { refused = NoPlan number; is = by.1; cause = (refl, is_none (plan_at plans number) by.0) }
plan_fails plans (request.Open opening) told is = absurd (cc)
plan_fails plans (request.Call made) told is = absurd (cc)
plan_fails plans (request.Cache made) told is = absurd (cc)
plan_fails plans (request.Store made) told is = absurd (cc)
plan_fails plans (request.Health made) told is = absurd (cc)
plan_fails plans (request.Link made) told is = absurd (cc)

session_fails : (sessions : List Session) (asked : Request) (told : Refusal) → session_for sessions asked ≡ Err told → SessionRefuses sessions asked told
session_fails sessions (request.Open opening) told is = elim (then_fails
    (refused_unless (OfSession (SessionThere opening.session)) (not (is_open sessions opening.session)))
    (refused_unless (OfSession (SessionFull (length sessions))) (nat_lt (length sessions) most_sessions)) told is) [
      | inl there ↦ (
          let by = unless_fails (OfSession (SessionThere opening.session)) told (not (is_open sessions opening.session)) there in
          record { refused = SessionThere opening.session; is = by.1; cause = (refl, is_true (is_open sessions opening.session) by.0) }
          )
      | inr full ↦ (
          let by = unless_fails (OfSession (SessionFull (length sessions))) told (nat_lt (length sessions) most_sessions) full in
          record { refused = SessionFull (length sessions); is = by.1; cause = (refl, ltb-false (length sessions) most_sessions by.0) }
          )
    ]
session_fails sessions (request.Call made) told is =
    let by = unless_fails (OfSession (NoSession (asking_session made))) told (is_open sessions (asking_session made)) is in
    record { refused = NoSession (asking_session made); is = by.1; cause = (refl, by.0) }
session_fails sessions (request.Plan (plan.Hold number made)) told is =
    let by = unless_fails (OfSession (NoSession (asking_session made))) told (is_open sessions (asking_session made)) is in
    record { refused = NoSession (asking_session made); is = by.1; cause = (refl, by.0) }
session_fails sessions (request.Plan (plan.Advance number)) told is = absurd (cc)
session_fails sessions (request.Cache made) told is = absurd (cc)
session_fails sessions (request.Store made) told is = absurd (cc)
session_fails sessions (request.Health made) told is = absurd (cc)
session_fails sessions (request.Link made) told is = absurd (cc)

-- ---- names

name_fails : (found : Result Checked NameRefused) (told : Refusal) → for_name found ≡ Err told
    → (refused : NameRefused) × (told ≡ Name refused) × (found ≡ Err refused)
name_fails (Ok x) told is = absurd (cc)
name_fails (Err refused) told is = (refused, cc, refl)

-- ---- all of it

-- a request that is refused before anything was done has its cause
pub not_asked : (tells : Bool) (old : Moment) (asked : Request) (told : Refusal) (new : Moment)
    → asked_of old.core.settings old.core.sessions old.core.plans asked ≡ Err told → HasCause tells old asked told new
not_asked tells old asked told new is = elim (then_fails (admitted old.core.sessions old.core.plans asked)
    (for_name (checked_of old.core.settings asked)) told is) [
      | inl refused ↦ elim (then_fails (plan_for old.core.plans asked) (session_for old.core.sessions asked) told refused) [
        | inl by_plan ↦ (
            let by = plan_fails old.core.plans asked told by_plan in
            subst (λ r. HasCause tells old asked r new) (sym by.is) by.cause
            )
        | inr by_session ↦ (
            let by = session_fails old.core.sessions asked told by_session in
            subst (λ r. HasCause tells old asked r new) (sym by.is) by.cause
            )
      ]
      | inr by_name ↦ (
          let by = name_fails (checked_of old.core.settings asked) told by_name in
          subst (λ r. HasCause tells old asked r new) (sym by.1) by.2
          )
    ]

-- ---- what is asked is placed

placed_so : (s : Settings) (found : Result Checked NameRefused) (what : Checked) → IfOk found (IsPlaced s) → for_name found ≡ Ok what → IsPlaced s what
placed_so s (Ok x) what placed is = (let same : x ≡ what = cc in subst (IsPlaced s) same placed)
placed_so s (Err refused) what placed is = absurd (cc)

passes_on : (first : Result ⊤ Refusal) (found : Result Checked Refusal) (what : Checked) → (first >>= (λ x. found)) ≡ Ok what → found ≡ Ok what
passes_on (Ok x) found what is = is
passes_on (Err refused) found what is = absurd (cc)

-- what a request asks is of the configuration
pub asked_placed : (old : Moment) (made : Request) (what : Checked) → Asks old made what → IsPlaced old.core.settings what
asked_placed old made what is =
    placed_so old.core.settings (checked_of old.core.settings made) what (placed old.core.settings made)
    (passes_on (admitted old.core.sessions old.core.plans made) (for_name (checked_of old.core.settings made)) what is)

-- ---- what kind of request asks what

-- what a line may have written, by what it asks
abbrev pub may_write : Checked → Refusal → Bool
may_write (asked.Plan made) refusal = false
may_write (asked.Store of_store.Settle) refusal = stops_settle refusal
may_write (asked.Store (of_store.Repair shard)) refusal = stops_repair refusal
may_write other refusal = nat_lt 0 (refused_at refusal)

abbrev SameFor : Request → Checked → Type 0
SameFor made what = (refusal : Refusal) → may_have_written made refusal ≡ may_write what refusal

placed_ok : {A : Type 0} (into : A → Checked) (found : Result A NameRefused) (what : Checked) → for_name (placed_as into found) ≡ Ok what
    → (place : A) × (found ≡ Ok place) × (what ≡ into place)
placed_ok into (Ok place) what is = (place, refl, cc)
placed_ok into (Err refused) what is = absurd (cc)

-- a store is asked for what the request asks
repaired_so : {B : Type 0} (there : Result B NameRefused) (into : CheckedStore) (place : CheckedStore) → (there >>= (λ t. Ok into)) ≡ Ok place → place ≡ into
repaired_so (Ok t) into place is = cc
repaired_so (Err refused) into place is = absurd (cc)

store_so : {A : Type 0} (found : Result A NameRefused) (into : A → CheckedStore) (place : CheckedStore) → placed_as into found ≡ Ok place
    → (a : A) × (place ≡ into a)
store_so (Ok a) into place is = (a, cc)
store_so (Err refused) into place is = absurd (cc)

store_kind : (s : Settings) (made : StoreRequest) (place : CheckedStore) → checked_store s made ≡ Ok place → SameFor (request.Store made) (asked.Store place)
store_kind s (store.Stream region shard position) place is =
    let so = store_so (store_named s region shard) (λ at. of_store.Stream at.region at.shard position) place is in
    λ refusal. ap (λ p. may_write (asked.Store p) refusal) (sym so.1)
store_kind s (store.Trim region shard position) place is =
    let so = store_so (store_named s region shard) (λ at. of_store.Trim at.region at.shard position) place is in
    λ refusal. ap (λ p. may_write (asked.Store p) refusal) (sym so.1)
store_kind s (store.Repair shard) place is =
    let so = repaired_so (configured_shard s shard) (of_store.Repair shard) place is in
    λ refusal. ap (λ p. may_write (asked.Store p) refusal) (sym so)
store_kind s store.Settle place is =
    let so : of_store.Settle ≡ place = cc in
    λ refusal. ap (λ p. may_write (asked.Store p) refusal) so
store_kind s (store.Audit read) place is =
    let so = store_so (checked_read_call s read) of_store.Audit place is in
    λ refusal. ap (λ p. may_write (asked.Store p) refusal) (sym so.1)

opened_so : {A : Type 0} (found : Result A NameRefused) (into : A → Checked) (what : Checked) → for_name (found >>= (λ a. Ok (into a))) ≡ Ok what
    → (a : A) × (what ≡ into a)
opened_so (Ok a) into what is = (a, cc)
opened_so (Err refused) into what is = absurd (cc)

by_kind : (s : Settings) (made : Request) (what : Checked) → for_name (checked_of s made) ≡ Ok what → SameFor made what
by_kind s (request.Open opening) what is =
    let so = opened_so (tier_named s opening.region opening.tier) (λ found. asked.Open opening.session found.region found.tier) what is in
    λ refusal. ap (λ w. may_write w refusal) (sym so.1)
by_kind s (request.Call made) what is =
    let so = placed_ok asked.Call (checked_call s made) what is in
    λ refusal. ap (λ w. may_write w refusal) (sym so.2)
by_kind s (request.Plan made) what is =
    let so = placed_ok asked.Plan (checked_plan s made) what is in
    λ refusal. ap (λ w. may_write w refusal) (sym so.2)
by_kind s (request.Cache made) what is =
    let so = placed_ok asked.Cache (checked_cache s made) what is in
    λ refusal. ap (λ w. may_write w refusal) (sym so.2)
by_kind s (request.Store made) what is =
    let so = placed_ok asked.Store (checked_store s made) what is in
    λ refusal. store_kind s made so.0 so.1 refusal ∙ ap (λ w. may_write w refusal) (sym so.2)
by_kind s (request.Health made) what is =
    let so = placed_ok asked.Health (checked_health s made) what is in
    λ refusal. ap (λ w. may_write w refusal) (sym so.2)
by_kind s (request.Link made) what is =
    let so = placed_ok asked.Link (checked_link s made) what is in
    λ refusal. ap (λ w. may_write w refusal) (sym so.2)

-- what the line may have written is told by what it asks
pub asked_kind : (old : Moment) (made : Request) (what : Checked) → Asks old made what → SameFor made what
asked_kind old made what is =
    by_kind old.core.settings made what
    (passes_on (admitted old.core.sessions old.core.plans made) (for_name (checked_of old.core.settings made)) what is)
