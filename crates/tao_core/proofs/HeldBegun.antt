-- A call that is begun: its plan can go on.
use Rattle.std.proofs.Common.{◌≡◌, ℕ, Bool, true, false, List, Option, Some, None, refl, ap, sym, subst}
use Rattle.std.specs.Prelude.{IsSome, IsSomeAnd}
use Rattle.core_model.specs.Pens.{pens_of}
use Rattle.core_model.specs.declared.named.Named.{Named}
use Rattle.core_model.proofs.Places.{one_some}
use Rattle.core_nodes.proofs.FleetLemmas.{goes_self}
use Rattle.core_plans.specs.Held.{AddsPlan, HoldsAsk, IsUnderWay, OpensFirst, Plans, next_stage, plan_at}
use Rattle.core_plans.specs.declared.held.HeldPlan.{HeldPlan}
use Rattle.core_plans.proofs.AsksHeld.{same_opens_none}
use Rattle.core_nodes.proofs.GrowingLemmas.{stays_stores}
use Rattle.core_sessions.specs.Sessions.{Session, is_open, session_at}
use Rattle.core_sessions.specs.declared.sessions.CallStart.{CallStart}
use Rattle.core_sessions.specs.declared.sessions.OpenSession.{OpenSession}
use Rattle.follower_cache.specs.Seen.{FollowerState}
use Rattle.node_name.specs.declared.NodeName.{NodeName}
use Rattle.read_plan.specs.Readings.{NeverAsks}
use Rattle.read_plan.specs.declared.standing.Standing.TheVariants.{Looking}
use Rattle.replies.specs.declared.refusals.NodeRefused.TheVariants.{NoServer}
use Rattle.replies.specs.declared.refusals.Refusal.TheVariants.{Node}
use Rattle.replies.specs.declared.reply.Reply.TheVariants.{Refused}
use Rattle.request_check.specs.declared.checked.CheckedCall.{CheckedCall}
use Rattle.request_check.specs.declared.checked.CheckedCall.TheVariants as call
use Rattle.tao_base.specs.Queries.{query_key, query_shard}
use Rattle.tao_base.specs.Writes.{write_shard}
use Rattle.tao_keeper.specs.KeeperState.{KeeperState}
use Rattle.topology.specs.Choices.{chosen_follower}
use Rattle.topology.specs.Config.{Settings}
use Rattle.tao_core.specs.Asked.{CallCanBeDone}
use Rattle.tao_core.specs.Core.{CoreState, IsConsistentCore, IsCoreOf, IsOfSession, IsSessionOf}
use Rattle.tao_core.specs.HeldCalls.{BeginsAt, IsBegun, IsNotBegun}
use Rattle.tao_core.specs.HeldCalls.{begun_plan, call_session, call_shard, call_start}
use Rattle.topology.specs.States.{NodeStates}
use Rattle.tao_core.proofs.HeldKeeping.{plans_set, set_each, with_plans}
use Rattle.tao_core.proofs.Found.{FoundStart, found_start, open_found, session_is}
use Rattle.tao_core.proofs.HeldSteps.{MayHold, StepsAsks, holds_none}
use Rattle.tao_core.proofs.Ways.{follower_for}

-- ---- the plan of a call

begun_asks : (s : Settings) (session : Session) (follower : NodeName) (asked : CheckedCall) (name : NodeName) (number : ℕ)
    → HoldsAsk name number (Some (begun_plan s session follower asked)) → ⊥
begun_asks s session follower (call.Write write) name number h = h
begun_asks s session follower (call.Read read) name number h = (let it = h.1 in absurd (cc))

begun_may : (s : Settings) (session : Session) (follower : NodeName) (asked : CheckedCall) → MayHold (Some (begun_plan s session follower asked))
begun_may s session follower (call.Write write) = tt
begun_may s session follower (call.Read read) = refl

begun_goes : (s : Settings) (session : Session) (follower : NodeName) (asked : CheckedCall) → IsSome (next_stage (begun_plan s session follower asked))
begun_goes s session follower (call.Write write) = refl
begun_goes s session follower (call.Read read) = refl

begun_steps : (s : Settings) (session : Session) (follower : NodeName) (asked : CheckedCall) (fs : List (Named FollowerState))
    → StepsAsks None (Some (begun_plan s session follower asked)) fs fs
begun_steps s session follower asked fs =
    holds_none None (Some (begun_plan s session follower asked)) fs fs (same_opens_none fs fs refl) (λ name number h. h) (begun_asks s session follower asked)
    (begun_may s session follower asked)

looking_never : (critical : Bool) → NeverAsks critical Looking
looking_never true = tt
looking_never false = tt

begun_under_way : (tells : Bool) (keepers : KeeperState) (core : CoreState) (session : Session) (follower : NodeName) (asked : CheckedCall)
    → IsConsistentCore tells keepers.told core → IsSessionOf tells core.settings keepers.told (pens_of core.fleet.stores) session
    → Some follower ≡ chosen_follower core.states session.region session.tier (call_shard asked) → CallCanBeDone core.settings core.sessions asked
    → IsUnderWay tells core.settings keepers.told core.fleet (begun_plan core.settings session follower asked)
begun_under_way tells keepers core session follower (call.Write write) of is chosen can = record {
  follower = follower_for tells keepers.told core of session.region session.tier (write_shard write.write) (write_shard write.write) follower refl
      can.0.configured chosen;
  region = is.region;
  changes = can.0.changes;
  client = refl;
  begun = λ none. (refl, refl);
  committed = tt;
  own = λ told. tt;
  spare = λ none before. tt;
  relay = λ none ahead. tt;
  job = tt;
  merged = λ is. tt;
  other = tt;
}
begun_under_way tells keepers core session follower (call.Read read) of is chosen can = record {
  follower = follower_for tells keepers.told core of session.region session.tier (query_shard read.query) (query_shard read.query) follower refl
      can.0 chosen;
  region = is.region;
  never_asks = looking_never read.critical;
  bound = refl;
  reached = λ told. is.floors told (query_key read.query);
  ask = tt;
  stands = tt;
}

begun_author : (s : Settings) (sessions : List Session) (session : Session) (follower : NodeName) (asked : CheckedCall)
    → is_open sessions (call_session asked) ≡ true → IsOfSession sessions (begun_plan s session follower asked)
begun_author s sessions session follower (call.Write write) found = found
begun_author s sessions session follower (call.Read read) found = found

begun_first : (s : Settings) (session : Session) (follower : NodeName) (asked : CheckedCall) → OpensFirst (begun_plan s session follower asked)
begun_first s session follower (call.Write write) = tt
begun_first s session follower (call.Read read) = refl

module _ (tells : Bool) (keepers : KeeperState) (core : CoreState) (of : IsConsistentCore tells keepers.told core) (asked : CheckedCall) (plan : HeldPlan)
    (begun : IsBegun core.settings core.states core.sessions asked plan) (can : CallCanBeDone core.settings core.sessions asked) where
  abbrev Begun : HeldPlan
  Begun = begun_plan core.settings begun.session begun.follower asked

  -- what holds of a call's plan of which nothing is done holds of the plan
  so_begun : (P : HeldPlan → Type 0) → P Begun → P plan
  so_begun P p = subst P (sym begun.plan_is) p

  pub is_under_way : IsUnderWay tells core.settings keepers.told core.fleet plan
  is_under_way =
      so_begun (IsUnderWay tells core.settings keepers.told core.fleet)
      (begun_under_way tells keepers core begun.session begun.follower asked of
      (session_is (IsSessionOf tells core.settings keepers.told (pens_of core.fleet.stores)) core.sessions (call_session asked) begun.session
      of.sessions begun.found) (sym begun.chosen) can)

  pub goes_first : IsSome (next_stage plan)
  goes_first = so_begun (λ p. IsSome (next_stage p)) (begun_goes core.settings begun.session begun.follower asked)

  pub opens_first : OpensFirst plan
  opens_first = so_begun OpensFirst (begun_first core.settings begun.session begun.follower asked)

  pub author_first : IsOfSession core.sessions plan
  author_first =
      so_begun (IsOfSession core.sessions) (begun_author core.settings core.sessions begun.session begun.follower asked
      (open_found core.sessions (call_session asked) begun.session begun.found))

  -- the core may be used with the plan that was added
  pub begun_core : (number : ℕ) (added : Plans) → IsCoreOf tells keepers.told core → plan_at core.plans number ≡ None
      → AddsPlan number plan core.plans added → IsCoreOf tells keepers.told (record core { plans = added })
  begun_core number added core_of free adds = record {
    is_consistent = with_plans tells keepers.told core added of;
    past = core_of.past;
    plans = plans_set tells core.settings keepers.told keepers.told core.fleet core.fleet number None (Some plan) core.plans added core_of.plans free adds.sets
        (so_begun (λ p. StepsAsks None (Some p) core.fleet.followers core.fleet.followers)
        (begun_steps core.settings begun.session begun.follower asked core.fleet.followers)) (goes_self core.fleet)
        (stays_stores tells core.settings keepers keepers (λ told at. refl)).on of.consistent
        (λ other same.
        subst (λ x. IsUnderWay tells core.settings keepers.told core.fleet x × IsSome (next_stage x)) (one_some plan other same)
        (is_under_way, goes_first));
    authors = set_each number (Some plan) core.plans added (IsOfSession core.sessions) adds.sets
        (λ other same. subst (IsOfSession core.sessions) (one_some plan other same) author_first) core_of.authors;
  }

-- ---- what begins a call

module _ (states : NodeStates) (sessions : List Session) (asked : CheckedCall) (start : CallStart) (shard : ℕ)
    (starts : IsSomeAnd (session_at sessions (call_session asked)) (λ o. start ≡ call_start asked o)) (shard_is : shard ≡ call_shard asked) where
  found_for : FoundStart sessions asked start
  found_for = found_start sessions asked start starts

  -- who is chosen for its place
  chosen_for : (follower : Option NodeName) → follower ≡ chosen_follower states start.place.region start.place.tier shard
      → follower ≡ chosen_follower states found_for.session.region found_for.session.tier (call_shard asked)
  chosen_for follower chosen =
      subst (λ (o : OpenSession). follower ≡ chosen_follower states o.region o.tier (call_shard asked))
      (ap (λ (at : CallStart). at.place) found_for.is)
      (subst (λ n. follower ≡ chosen_follower states start.place.region start.place.tier n) shard_is chosen)

  -- its plan begins there
  pub begins_at : (follower : NodeName) → Some follower ≡ chosen_follower states start.place.region start.place.tier shard
      → BeginsAt states sessions asked start follower
  begins_at follower chosen = record {
    session = found_for.session;
    found = found_for.at;
    start_is = found_for.is;
    chosen = sym (chosen_for (Some follower) chosen);
  }

  -- none could be chosen
  pub none_for : None ≡ chosen_follower states start.place.region start.place.tier shard
      → IsNotBegun states sessions asked (Refused (Node (NoServer start.place.region)))
  none_for none = record {
    session = found_for.session;
    found = found_for.at;
    region_is = ap (λ (at : CallStart). at.place.region) found_for.is;
    none = sym (chosen_for None none);
  }

-- the plan that is made of it is begun
pub is_begun : (s : Settings) (states : NodeStates) (sessions : List Session) (asked : CheckedCall) (start : CallStart) (follower : NodeName)
    (plan : HeldPlan) → BeginsAt states sessions asked start follower
    → ((session : Session) → start ≡ call_start asked session → plan ≡ begun_plan s session follower asked)
    → IsBegun s states sessions asked plan
is_begun s states sessions asked start follower plan begins made = record {
  session = begins.session;
  follower = follower;
  found = begins.found;
  chosen = begins.chosen;
  plan_is = made begins.session begins.start_is;
}
