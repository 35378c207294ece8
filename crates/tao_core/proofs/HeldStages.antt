-- What a stage of a held plan leaves, where the plan is held on, and where it is over.
use Rattle.std.proofs.Common.{◌≡◌, ◌<◌, ℕ, Bool, List, Option, Some, None, ap, inl, inr, refl, sym, subst}
use Rattle.std.proofs.lemmas.Option.{IfSome_then}
use Rattle.std.specs.Prelude.{All, IfSome, IsSome}
use Rattle.core_model.specs.Fleet.{Fleet}
use Rattle.core_model.specs.Pens.{Pens, Rise, pens_of}
use Rattle.core_plans.specs.Held.{CanStep, ChangesPlan, GivesUpPlan, IsUnderWay, OpensFirst, Plans, StepsPlan, plan_at}
use Rattle.core_plans.specs.declared.held.HeldPlan.{HeldPlan}
use Rattle.core_plans.specs.declared.held.HeldPlan.TheVariants.{Read, Write}
use Rattle.core_plans.specs.LedBy.{rules_of}
use Rattle.core_sessions.specs.Sessions.{Session, sessions_of}
use Rattle.core_steps.specs.World.{World, world}
use Rattle.core_steps.specs.declared.nodes.Nodes.{Nodes}
use Rattle.core_steps.specs.Posting.{PostsOn}
use Rattle.graph_model.proofs.Members.{if_some, if_some_at}
use Rattle.replies.specs.declared.plans.PlanReply.TheVariants.{Next}
use Rattle.replies.specs.declared.plans.Stage.{Stage}
use Rattle.replies.specs.declared.reply.Reply.{Reply}
use Rattle.replies.specs.declared.reply.Reply.TheVariants as replied
use Rattle.session_pass.specs.Passes.{SeenPass}
use Rattle.tao_keeper.specs.KeeperState.{KeeperState}
use Rattle.tao_keeper.specs.Table.{Tables}
use Rattle.tao_link.specs.Shown.{LinkShown}
use Rattle.topology.specs.Config.{Settings}
use Rattle.topology.specs.States.{NodeStates}
use Rattle.words.specs.declared.PlanWord.{PlanWord}
use Rattle.tao_core.specs.Core.{CoreState, IsConsistentCore, IsCoreOf, IsOfSession, IsSessionOf, Moment, StaysUsable, moment}
use Rattle.tao_core.specs.HeldCalls.{AdvancesPlan, DoesStage, EndsPlan, HasRoomFor, IsReady, MayLearn, StepsAt, held_seen, next_at, plan_shard}
use Rattle.tao_core.specs.declared.teaching.Reader.{Reader}
use Rattle.tao_core.proofs.HeldOn.{none_come}
use Rattle.tao_core.proofs.HeldKeeping.{author_held, comes_there, does_stage, end_steps, ends_core, next_core, next_steps, set_here, stepped_core}
use Rattle.tao_core.proofs.HeldLearning.{given_up_room, may_learn, room_after}
use Rattle.tao_core.specs.Calls.{world_at}

-- ---- a stage, or the end without it

pub can_under : (tells : Bool) (s : Settings) (tables : Tables) (f : Fleet) (plan : Option HeldPlan)
    → CanStep tells s tables f plan → IfSome plan (IsUnderWay tells s tables f)
can_under tells s tables f None can = absurd can
can_under tells s tables f (Some plan) can = can.under_way

pub can_there : (tells : Bool) (s : Settings) (tables : Tables) (f : Fleet) (plan : Option HeldPlan) → CanStep tells s tables f plan → IsSome plan
can_there tells s tables f None can = absurd can
can_there tells s tables f (Some plan) can = refl

-- the shard of a plan that is under way is configured
pub shard_here : (tells : Bool) (s : Settings) (tables : Tables) (f : Fleet) (plan : HeldPlan) → IsUnderWay tells s tables f plan → plan_shard plan < s.shards
shard_here tells s tables f (Read p) under = under.follower.here
shard_here tells s tables f (Write p) under = under.follower.here

pub shard_there : (tells : Bool) (s : Settings) (tables : Tables) (f : Fleet) (plan : Option HeldPlan) → IfSome plan (IsUnderWay tells s tables f)
    → IfSome plan (λ p. plan_shard p < s.shards)
shard_there tells s tables f plan under = IfSome_then plan under (shard_here tells s tables f)

module _ (tells : Bool) (s : Settings) (number : ℕ) (plans later : Plans) (reader : Option Reader) (passes : List SeenPass) where
  room_there : (pens : Pens) (after : HeldPlan) → ChangesPlan number after plans later → HasRoomFor pens after reader passes
      → IfSome (plan_at later number) (λ one. HasRoomFor pens one reader passes)
  room_there pens after changes room =
      subst (λ (o : Option HeldPlan). IfSome o (λ one. HasRoomFor pens one reader passes)) (sym (set_here number (Some after) plans later changes.sets)) room

  pub room_stepped : (tables : Tables) (f : Fleet) (pens now : Pens) (old new : World) → Rise pens now
      → StepsPlan (rules_of tells s) number plans old later new → CanStep tells s tables f (plan_at plans number)
      → IfSome (plan_at plans number) OpensFirst → IfSome (plan_at plans number) (λ one. IsReady pens one reader passes)
      → IfSome (plan_at later number) (λ one. HasRoomFor now one reader passes)
  room_stepped tables f pens now old new rise steps can first ready = room_there now steps.after steps.changes
      (room_after (rules_of tells s) tables f pens now reader passes steps.before steps.after old new rise
      (if_some_at OpensFirst (plan_at plans number) steps.before first steps.stands)
      (if_some_at (IsUnderWay tells s tables f) (plan_at plans number) steps.before (can_under tells s tables f (plan_at plans number) can) steps.stands)
      steps.steps (if_some_at (λ one. IsReady pens one reader passes) (plan_at plans number) steps.before ready steps.stands))

  pub room_given : (pens : Pens) (old new : World) → GivesUpPlan number plans old later new
      → IfSome (plan_at later number) (λ one. HasRoomFor pens one reader passes)
  room_given pens old new gives =
      room_there pens gives.after gives.changes (given_up_room pens gives.before gives.after reader old new passes gives.gives)

module _ (tells : Bool) (s : Settings) (number : ℕ) (plans later : Plans) (old new : World) where
  -- a plan that did a stage, or ended in place of one
  pub advances : StepsPlan (rules_of tells s) number plans old later new → AdvancesPlan (rules_of tells s) number plans old later new
  advances steps =
      record { before = steps.before; after = steps.after; stands = steps.stands; steps = inl steps.steps; changes = steps.changes }

  pub ends_without : GivesUpPlan number plans old later new → AdvancesPlan (rules_of tells s) number plans old later new
  ends_without gives = record {
    before = gives.before;
    after = gives.after;
    stands = gives.stands;
    steps = inr (record { last = gives.last; gives = gives.gives });
    changes = gives.changes;
  }

-- ---- the replies

-- what a stage leaves, and how it is replied
pub record StageLeaves (tells : Bool) (asked : PlanWord) (number : ℕ) (old : Moment) (reply : Reply) (new : Moment) : Type 0 where
  pub steps : StepsAt tells asked number old reply new
  pub usable : StaysUsable tells old.keepers new.keepers old.core new.core

module _ (tells : Bool) (number : ℕ) (core seen : CoreState) (own : core ≡ seen) (end : Nodes) (plans : Plans) (sessions : List Session)
    (before now : KeeperState) (from to : LinkShown) (of_seen : IsCoreOf tells before.told seen)
    (steps : AdvancesPlan (rules_of tells core.settings) number core.plans (world_at core before from) plans
    (world end now to))
    (under : IfSome (plan_at plans number) (IsUnderWay tells core.settings now.told end.fleet))
    (posts : PostsOn tells core.settings (world_at core before from) (world end now to))
    (same : sessions ≡ core.sessions) where
  abbrev Mid : CoreState
  Mid = record core { fleet = end.fleet; mail = end.mail; states = end.topology; plans = plans }

  of : IsCoreOf tells before.told core
  of = subst (IsCoreOf tells before.told) (sym own) of_seen

  does : DoesStage tells number (moment core before from) (moment Mid now to)
  does = does_stage tells number core end plans before now from to posts.link steps of.is_consistent.masters posts.consistent under

  is_mid : IsConsistentCore tells now.told Mid
  is_mid = stepped_core tells before.told now.told core end plans of.is_consistent posts.states posts.consistent posts.inboxes posts.arrived posts.goes
      posts.grows.on.logs

  own_rest : Mid ≡ record core { fleet = end.fleet; mail = end.mail; plans = plans }
  own_rest = ap (λ (n : NodeStates). record Mid { states = n }) posts.states

  -- as its callers see the core
  leaves_so : (asked : PlanWord) (reply : Reply) (later : Plans) (learnt : List Session)
      → StepsAt tells asked number (moment core before from) reply (moment (record Mid { plans = later; sessions = learnt }) now to)
      → IsCoreOf tells now.told (record Mid { plans = later; sessions = learnt })
      → StageLeaves tells asked number (moment seen before from) reply (moment (record Mid { plans = later; sessions = learnt }) now to)
  leaves_so asked reply later learnt at is =
      subst (λ x. StageLeaves tells asked number (moment x before from) reply (moment (record Mid { plans = later; sessions = learnt }) now to)) own
      (record {
        steps = at;
        usable = record {
          settings = ap (λ (x : CoreState). x.settings) at.rest;
          keepers = is;
          goes = posts.goes;
          comes = none_come tells now.told core (record Mid { plans = later; sessions = learnt }) posts.states;
          grows = posts.grows.on;
          later = posts.later;
        };
      })

  -- ---- it is held on

  pub next_leaves : (asked : PlanWord) (stage : Stage) (reply : Reply) → next_at plans number ≡ Some stage → reply ≡ replied.Plan (Next asked number stage)
      → StageLeaves tells asked number (moment seen before from) reply (moment (record Mid { sessions = sessions }) now to)
  next_leaves asked stage reply next told =
      leaves_so asked reply plans sessions
      (next_steps tells number (moment core before from) (moment Mid now to) does asked stage sessions reply next told same own_rest)
      (subst (λ xs. IsCoreOf tells now.told (record Mid { sessions = xs })) (sym same)
      (next_core tells number (moment core before from) (moment Mid now to) does of stage next is_mid refl refl posts.goes posts.grows under))

  -- ---- it is over

  abbrev Ends : Plans → List Session → Reply → Fleet → Type 0
  Ends later learnt reply last = IfSome (plan_at plans number)
      (λ held_plan. EndsPlan number held_plan (held_seen plans sessions (pens_of end.fleet.stores)) reply (held_seen later learnt (pens_of last.stores)))

  pub may_here : (reader : Option Reader) (passes : List SeenPass) → sessions_of passes ≡ core.sessions
      → IfSome (plan_at plans number) (λ held_plan. HasRoomFor (pens_of end.fleet.stores) held_plan reader passes)
      → IfSome (plan_at plans number) (λ held_plan. MayLearn (pens_of end.fleet.stores) held_plan reader passes)
  may_here reader passes are room = if_some (λ held_plan. MayLearn (pens_of end.fleet.stores) held_plan reader passes) (plan_at plans number) (λ held_plan at.
      may_learn tells core.settings now.told end.fleet of.is_consistent.masters posts.consistent.stores held_plan reader passes
      (if_some_at (IsUnderWay tells core.settings now.told end.fleet) (plan_at plans number) held_plan under at)
      (subst (λ xs. IsOfSession xs held_plan) (sym are)
      (author_held tells number (moment core before from) (moment Mid now to) does of core.sessions refl number held_plan at))
      (if_some_at (λ one. HasRoomFor (pens_of end.fleet.stores) one reader passes) (plan_at plans number) held_plan room at)
      (comes_there tells number (moment core before from) (moment Mid now to) does held_plan at)
      (subst (All (IsSessionOf tells core.settings now.told (pens_of end.fleet.stores))) (sym are) is_mid.sessions))

  ends_leave : (asked : PlanWord) (later : Plans) (learnt : List Session) (reply : Reply) → next_at plans number ≡ None
      → Ends later learnt reply end.fleet
      → StageLeaves tells asked number (moment seen before from) reply (moment (record Mid { plans = later; sessions = learnt }) now to)
  ends_leave asked later learnt reply over ends =
      let pens = pens_of end.fleet.stores in
      let mid =
      subst (λ xs. IfSome (plan_at plans number) (λ held_plan. EndsPlan number held_plan (held_seen plans xs pens) reply (held_seen later learnt pens)))
      same ends in
      leaves_so asked reply later learnt
      (end_steps tells number (moment core before from) (moment Mid now to) does asked later learnt reply over mid own_rest)
      (ends_core tells number (moment core before from) (moment Mid now to) does later learnt reply over mid of is_mid refl refl posts.goes posts.grows under)

  -- no node changes by that
  pub end_leaves : (asked : PlanWord) (later : Plans) (learnt : List Session) (reply : Reply) (last : Fleet) → last ≡ end.fleet
      → next_at plans number ≡ None → Ends later learnt reply last
      → StageLeaves tells asked number (moment seen before from) reply (moment (record Mid { plans = later; sessions = learnt; fleet = last }) now to)
  end_leaves asked later learnt reply last stays over ends =
      subst (λ f. StageLeaves tells asked number (moment seen before from) reply (moment (record Mid { plans = later; sessions = learnt; fleet = f }) now to))
      (sym stays) (ends_leave asked later learnt reply over (subst (Ends later learnt reply) stays ends))
