-- A plan that does all of its stages at once: its session may learn of it, what is kept has come far, and no ask stays open.
use Rattle.std.proofs.Common.{◌≡◌, ℕ, zero, suc, Bool, true, false, List, Option, Some, None, refl, ap, sym, ◌∙◌, subst, inl, inr}
use Rattle.std.specs.Prelude.{◌⊎◌, All, IsSome}
use Rattle.core_model.specs.Consistent.{IsConsistent}
use Rattle.core_model.specs.Pens.{Pens, Rise, pens_of}
use Rattle.core_model.specs.Stores.{HaveMasterRegions}
use Rattle.core_plans.proofs.InTurn.{goes_on, read_same, write_same}
use Rattle.core_plans.specs.Held.{HoldsAsk, IsOpenAt, IsOver, IsUnderWay, OpensFirst, OpensNone, StepsHeld, next_stage}
use Rattle.core_plans.specs.HeldLaws.{Followers}
use Rattle.core_plans.specs.LedBy.{Rules, rules_of}
use Rattle.core_plans.specs.WholeCalls.{CarriesOut, PassesStages}
use Rattle.core_plans.specs.declared.held.HeldPlan.{HeldPlan}
use Rattle.core_plans.specs.declared.held.HeldPlan.TheVariants.{Read, Write}
use Rattle.core_sessions.specs.Sessions.{HasRoomForBoth, Session, sessions_of}
use Rattle.core_steps.specs.Posting.{PostsOn}
use Rattle.core_steps.specs.World.{World, world}
use Rattle.core_steps.specs.declared.nodes.Nodes.{Nodes}
use Rattle.node_name.specs.declared.NodeName.{NodeName}
use Rattle.replies.specs.declared.plans.Stage.{Stage}
use Rattle.replies.specs.declared.reply.Reply.{Reply}
use Rattle.session_pass.specs.Passes.{SeenPass}
use Rattle.tao_base.specs.Queries.{query_shard}
use Rattle.tao_base.specs.declared.query.Query.{Query}
use Rattle.tao_keeper.specs.KeeperState.{KeeperState}
use Rattle.tao_link.specs.Shown.{LinkShown}
use Rattle.topology.specs.Config.{Settings}
use Rattle.tao_core.specs.Core.{CoreState, IsConsistentCore, IsOfSession, IsSessionOf, LeavesCore, author, moment}
use Rattle.tao_core.specs.HeldCalls.{DoesAtOnce, HasRoomFor, HeldReaches, IsReaderOf, LearnsOf, MayLearn}
use Rattle.tao_core.specs.declared.teaching.Reader.{Reader}
use Rattle.tao_core.proofs.HeldKeeping.{stepped_core, with_sessions}
use Rattle.tao_core.proofs.HeldLearning.{author_stays, learns_open, learns_ours, may_learn}
use Rattle.tao_core.proofs.StayOpen.{StayOpen}
use Rattle.tao_core.proofs.LearningReads.{ReachesEnd, reader_later, step_reaches}
use Rattle.tao_core.proofs.HeldOn.{none_come}
use Rattle.tao_core.proofs.HeldSteps.{MayHold, held_after, kept, kept_may, steps_asks}
use Rattle.core_model.proofs.NamesOnce.{stand_alone}
use Rattle.tao_core.proofs.Reaching.{held_reaches}
use Rattle.tao_core.specs.Calls.{world_at}
use Rattle.topology.specs.States.{NodeStates}

-- the session of a plan has room for all that it may learn of it, and who is ready is the session of a read
abbrev pub HasRoomAlready : Pens → HeldPlan → Option Reader → List SeenPass → Type 0
HasRoomAlready pens (Write p) reader passes = HasRoomForBoth (author p.origin) passes
HasRoomAlready pens (Read p) reader passes = IsReaderOf pens (query_shard p.query) p.reader reader passes

kept_here : (next : Option Stage) (plan : HeldPlan) → IsSome next → kept next plan ≡ Some plan
kept_here (Some stage) plan some = refl
kept_here None plan some = absurd (cc)

room_for : (pens : Pens) (plan : HeldPlan) (reader : Option Reader) (passes : List SeenPass) → HasRoomAlready pens plan reader passes
    → HasRoomFor pens plan reader passes
room_for pens (Write p) reader passes room = λ over reply is. room
room_for pens (Read p) reader passes room = λ reply ends. room

-- there is room still as logs grow
room_later : (pens later : Pens) (plan : HeldPlan) (reader : Option Reader) (passes : List SeenPass) → Rise pens later
    → HasRoomAlready pens plan reader passes → HasRoomAlready later plan reader passes
room_later pens later (Write p) reader passes rise room = room
room_later pens later (Read p) reader passes rise room = reader_later pens later (query_shard p.query) p.reader reader passes rise room

-- each session that is open stays so, whatever that of a plan learns
pub learns_stay : (pens : Pens) (plan : HeldPlan) (reply : Reply) (old new : List Session) → LearnsOf pens plan reply old new → StayOpen old new
learns_stay pens plan reply old new learns = record { stays = λ n there. learns_open pens plan reply old new learns n ∙ there }

module _ (tells : Bool) (s : Settings) where
  abbrev By : Rules
  By = rules_of tells s

  -- ---- who learns

  author_then : (n : ℕ) (p q : HeldPlan) (old new : World) (sessions : List Session) → PassesStages By n p old q new → IsOfSession sessions p
      → IsOfSession sessions q
  author_then zero p q old new sessions passes is = subst (IsOfSession sessions) (sym passes.0) is
  author_then (suc n) p q old new sessions passes is =
      author_stays By passes.0 q passes.1 new sessions passes.3.steps (author_then n p passes.0 old passes.1 sessions passes.2 is)

  room_stays : (pens : Pens) (p q : HeldPlan) (old new : World) (reader : Option Reader) (passes : List SeenPass) → StepsHeld By p old q new
      → HasRoomAlready pens p reader passes → HasRoomAlready pens q reader passes
  room_stays pens (Read p) (Read q) old new reader passes steps room =
      let same = read_same p q old new By steps.steps.does in
      subst (λ n. IsReaderOf pens (query_shard q.query) n reader passes) (sym same.reader)
      (subst (λ (x : Query). IsReaderOf pens (query_shard x) p.reader reader passes) (sym same.query) room)
  room_stays pens (Write p) (Write q) old new reader passes steps room =
      subst (λ o. HasRoomForBoth (author o) passes) (sym (write_same p q old new By steps).origin) room
  room_stays pens (Read p) (Write q) old new reader passes steps room = absurd steps
  room_stays pens (Write p) (Read q) old new reader passes steps room = absurd steps

  room_then : (pens : Pens) (n : ℕ) (p q : HeldPlan) (old new : World) (reader : Option Reader) (free : List SeenPass) → PassesStages By n p old q new
      → HasRoomAlready pens p reader free → HasRoomAlready pens q reader free
  room_then pens zero p q old new reader free passes room = subst (λ plan. HasRoomAlready pens plan reader free) (sym passes.0) room
  room_then pens (suc n) p q old new reader free passes room =
      room_stays pens passes.0 q passes.1 new reader free passes.3.steps (room_then pens n p passes.0 old passes.1 reader free passes.2 room)

  -- a plan that did no stage has one left
  begun_not : (p q : HeldPlan) → IsSome (next_stage p) → q ≡ p → next_stage q ≡ None → ⊥
  begun_not p q goes same over =
      let none : next_stage p ≡ None = subst (λ plan. next_stage plan ≡ None) same over in
      let e : false ≡ true = subst IsSome none goes in
      absurd (cc)

  -- where a read is answered its key has come to the version
  comes_then : (n : ℕ) (p q : HeldPlan) (old new : World) → IsSome (next_stage p) → PassesStages By n p old q new → next_stage q ≡ None
      → ReachesEnd tells s new.keepers.told q
  comes_then zero p q old new goes passes over = absurd (begun_not p q goes passes.0 over)
  comes_then (suc n) p q old new goes passes over = step_reaches By passes.0 q passes.1 new passes.3.steps

  -- ---- what is kept

  reaches_then : (n : ℕ) (p q : HeldPlan) (old new : World) → HaveMasterRegions s → IsSome (next_stage p) → PassesStages By n p old q new
      → next_stage q ≡ None → HeldReaches tells s q new
  reaches_then zero p q old new masters goes passes over = absurd (begun_not p q goes passes.0 over)
  reaches_then (suc n) p q old new masters goes passes over =
      held_reaches By passes.0 q passes.1 new new.keepers.told new.fleet passes.3.steps masters passes.3.on.consistent
      passes.3.under_way

  -- ---- asks

  consistent_then : (n : ℕ) (p q : HeldPlan) (old new : World) → IsConsistent tells s old.keepers.told old.fleet
      → PassesStages By n p old q new → IsConsistent tells s new.keepers.told new.fleet
  consistent_then zero p q old new is passes = subst (λ (x : World). IsConsistent tells s x.keepers.told x.fleet) (sym passes.1) is
  consistent_then (suc n) p q old new is passes = passes.3.on.consistent

  -- each ask that is open is the plan's own, or was open before
  abbrev OpensOwn : HeldPlan → Followers → Followers → Type 0
  OpensOwn plan old now = (name : NodeName) (number : ℕ) → IsOpenAt name number now → HoldsAsk name number (held_after plan) ⊎ IsOpenAt name number old

  opens_then : (n : ℕ) (p q : HeldPlan) (old new : World) → IsConsistent tells s old.keepers.told old.fleet → OpensFirst p
      → PassesStages By n p old q new → OpensOwn q old.fleet.followers new.fleet.followers × MayHold (held_after q)
  opens_then zero p q old new is first passes = (
    (λ name number h. inr (subst (λ (x : World). IsOpenAt name number x.fleet.followers) passes.1 h)),
    subst (λ plan. MayHold (held_after plan)) (sym passes.0) (kept_may (next_stage p) p first),
  )
  opens_then (suc n) p q old new is first passes =
      let m = passes.0 in
      let mid = passes.1 in
      let so_far = opens_then n p m old mid is first passes.2 in
      let here : held_after m ≡ Some m = kept_here (next_stage m) m (goes_on By m q mid new passes.3.steps) in
      let alone = stand_alone s mid.fleet.followers (consistent_then n p m old mid is passes.2).fleet.follower_names in
      let asks = steps_asks By m q mid new alone (subst MayHold here so_far.1) passes.3.steps in (
        (λ name number h. elim (asks.still name number h) [
          | inl own ↦ inl own
          | inr both ↦ elim (so_far.0 name number both.0) [
            | inl mine ↦ inl (both.1 (subst (HoldsAsk name number) here mine))
            | inr was ↦ inr was
          ]
        ]),
        asks.may,
      )

  -- once it is over, none stays open
  pub opens_none : (p q : HeldPlan) (old new : World) → IsConsistent tells s old.keepers.told old.fleet → OpensFirst p
      → CarriesOut By p old q new → OpensNone old.fleet.followers new.fleet.followers
  opens_none p q old new is first carries =
      let over : held_after q ≡ None = ap (λ next. kept next q) carries.over in
      record {
        still = λ name number h. elim ((opens_then carries.stages p q old new is first carries.passes).0 name number h) [
          | inl own ↦ absurd (subst (HoldsAsk name number) over own)
          | inr was ↦ was
        ];
      }

-- ---- a core whose call was carried out

module _ (tells : Bool) (core : CoreState) (end : Nodes) (before now : KeeperState) (from to : LinkShown) (plan after : HeldPlan)
    (of : IsConsistentCore tells before.told core) (first : OpensFirst plan) (goes : IsSome (next_stage plan))
    (carries : CarriesOut (rules_of tells core.settings) plan (world_at core before from) after (world end now to))
    (under : IsUnderWay tells core.settings now.told end.fleet after)
    (on : PostsOn tells core.settings (world_at core before from) (world end now to)) where
  abbrev Mid : CoreState
  Mid = record core { fleet = end.fleet; mail = end.mail; states = end.topology }

  abbrev Old : World
  Old = world_at core before from

  abbrev New : World
  New = world end now to

  is_mid : IsConsistentCore tells now.told Mid
  is_mid = stepped_core tells before.told now.told core end core.plans of on.states on.consistent on.inboxes on.arrived on.goes
      on.grows.on.logs

  -- where a read is answered its key has come to the version
  carried_comes : ReachesEnd tells core.settings now.told after
  carried_comes = comes_then tells core.settings carries.stages plan after Old New goes carries.passes carries.over

  pub carried_learns : (reader : Option Reader) (passes : List SeenPass) → sessions_of passes ≡ core.sessions → IsOfSession core.sessions plan
      → HasRoomAlready (pens_of core.fleet.stores) plan reader passes → MayLearn (pens_of end.fleet.stores) after reader passes
  carried_learns reader passes same author room =
      let pens = pens_of end.fleet.stores in
      may_learn tells core.settings now.told end.fleet of.masters on.consistent.stores after reader passes under
      (subst (λ xs. IsOfSession xs after) (sym same)
      (author_then tells core.settings carries.stages plan after Old New core.sessions carries.passes author))
      (room_for pens after reader passes (room_then tells core.settings pens carries.stages plan after Old New reader passes carries.passes
      (room_later (pens_of core.fleet.stores) pens plan reader passes on.goes.rise room)))
      carried_comes
      (subst (All (IsSessionOf tells core.settings now.told pens)) (sym same) is_mid.sessions)

  pub carried_leaves : (sessions : List Session) (reply : Reply) → IsOver after reply
      → LearnsOf (pens_of end.fleet.stores) after reply core.sessions sessions → LeavesCore tells before now core (record Mid { sessions = sessions })
  carried_leaves sessions reply over learns = record {
    is_consistent = with_sessions tells now.told Mid core.plans sessions is_mid
        (learns_ours tells core.settings now.told end.fleet of.masters on.consistent.stores after reply core.sessions sessions under over carried_comes
        learns is_mid.sessions);
    on = record { goes = on.goes; opens = opens_none tells core.settings plan after Old New of.consistent first carries };
    comes = none_come tells now.told core (record Mid { sessions = sessions }) on.states;
    grows = on.grows;
    later = on.later;
  }

  pub carried_does : (sessions : List Session) (reply : Reply) → IsOver after reply
      → LearnsOf (pens_of end.fleet.stores) after reply core.sessions sessions
      → DoesAtOnce tells plan (moment core before from) reply (moment (record Mid { sessions = sessions }) now to)
  carried_does sessions reply over learns = record {
    after = after;
    carries = carries;
    over = over;
    reaches = reaches_then tells core.settings carries.stages plan after Old New of.masters goes carries.passes carries.over;
    learns = learns;
    link = on.link;
    rest = ap (λ (n : NodeStates). record Mid { sessions = sessions; states = n }) on.states;
  }
