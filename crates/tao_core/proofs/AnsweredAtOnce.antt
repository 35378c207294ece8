-- A call that isn't held: what its reply says, and what it leaves.
use Rattle.std.proofs.Common.{◌≡◌, ◌∙◌, ℕ, Bool, false, List, Option, Some, None, ap, refl, subst, sym, inl, inr}
use Rattle.core_plans.proofs.ReadEndings.{ended_reader}
use Rattle.core_plans.specs.Held.{IsOver, IsUnderWay, OpensFirst, next_stage}
use Rattle.core_plans.specs.HeldReads.{at_bound}
use Rattle.core_plans.specs.declared.held.HeldPlan.TheVariants as of
use Rattle.core_model.specs.Fleet.{Fleet, region_of}
use Rattle.core_model.specs.Pens.{Pens, pens_of}
use Rattle.follower_cache.specs.declared.queue.Refill.{Refill}
use Rattle.read_plan.specs.Readings.{Reading, new_reading}
use Rattle.read_plan.specs.declared.standing.Standing.TheVariants.{Looking}
use Rattle.tao_core.specs.Deliveries.{home_tier, refill_plan}
use Rattle.topology.specs.Config.{Settings}
use Rattle.topology.specs.States.{NodeStates}
use Rattle.std.specs.Prelude.{IsSome}
use Rattle.core_plans.specs.LedBy.{rules_of}
use Rattle.core_plans.specs.WholeCalls.{CarriesOut}
use Rattle.core_plans.specs.declared.held.HeldPlan.{HeldPlan}
use Rattle.core_sessions.specs.Sessions.{HasRoomForBoth, Session, sessions_of}
use Rattle.core_sessions.specs.declared.sessions.CallStart.{CallStart}
use Rattle.core_steps.specs.Posting.{CanPost, PostsOn}
use Rattle.core_steps.specs.World.{world}
use Rattle.core_steps.specs.declared.nodes.Nodes.{Nodes}
use Rattle.node_name.specs.declared.NodeName.{NodeName}
use Rattle.replies.specs.declared.reply.Reply.{Reply}
use Rattle.request_check.specs.declared.checked.CheckedCall.{CheckedCall}
use Rattle.request_check.specs.declared.checked.CheckedCall.TheVariants as call
use Rattle.request_check.specs.declared.checked.CheckedRead.{CheckedRead}
use Rattle.request_check.specs.declared.checked.CheckedWrite.{CheckedWrite}
use Rattle.session_pass.specs.Passes.{SeenPass}
use Rattle.shard_log.specs.View.{View, as_note}
use Rattle.tao_base.specs.Queries.{query_shard}
use Rattle.tao_keeper.specs.KeeperState.{KeeperState}
use Rattle.tao_link.specs.Shown.{LinkShown}
use Rattle.tao_core.specs.Asked.{CallCanBeDone}
use Rattle.tao_core.specs.Core.{CoreState, IsConsistentCore, IsCoreOf, LeavesCore, Moment, StaysUsable, moment}
use Rattle.tao_core.specs.HeldCalls.{AnswersCall, BeginsAt, DoesAtOnce, IsBegun, IsNotBegun, LearnsOf, MayLearn, begun_plan, call_start}
use Rattle.tao_core.specs.declared.teaching.Reader.{Reader}
use Rattle.tao_core.proofs.AtOnce.{HasRoomAlready, carried_does, carried_learns, carried_leaves, learns_stay}
use Rattle.tao_core.proofs.HeldBegun.{author_first, goes_first, is_begun, is_under_way, opens_first}
use Rattle.tao_core.proofs.HeldOn.{core_goes_on}
use Rattle.tao_core.proofs.Keeping.{core_can_post}
use Rattle.tao_core.proofs.LearningReads.{nobody_learns}
use Rattle.tao_core.proofs.NotBegun.{not_begun, stays_usable}
use Rattle.tao_core.specs.Calls.{world_at}

-- what a call leaves that isn't held, and how it is replied
pub record CallLeaves (tells : Bool) (asked : CheckedCall) (old : Moment) (reply : Reply) (new : Moment) : Type 0 where
  pub does : AnswersCall tells asked old reply new
  pub usable : StaysUsable tells old.keepers new.keepers old.core new.core

-- a call of which no plan was begun changes nothing
pub refused_call : (tells : Bool) (asked : CheckedCall) (core left seen : CoreState) (own : core ≡ seen) (same : left ≡ core) (keepers : KeeperState)
    (link : LinkShown) (reply : Reply) → IsCoreOf tells keepers.told seen → IsNotBegun core.states core.sessions asked reply
    → CallLeaves tells asked (moment seen keepers link) reply (moment left keepers link)
refused_call tells asked core left seen own same keepers link reply of refused = record {
  does = inr (not_begun core left seen own same tells keepers link asked reply refused);
  usable = stays_usable core left seen own same tells keepers link of;
}

-- a core whose nodes and sessions were lent
abbrev pub lent_core : CoreState → Fleet → List Session → CoreState
lent_core core fleet sessions = record core { fleet = fleet; sessions = sessions }

-- it is the same where they stayed so
pub lent_same : (core : CoreState) (fleet : Fleet) (sessions : List Session) → fleet ≡ core.fleet → sessions ≡ core.sessions
    → lent_core core fleet sessions ≡ core
lent_same core fleet sessions same_fleet same = ap (λ f. lent_core core f sessions) same_fleet ∙ ap (lent_core core core.fleet) same

-- ---- a call that begins

-- a call begins with that plan at the core that is seen
pub record StartsCall (tells : Bool) (asked : CheckedCall) (core seen : CoreState) (keepers : KeeperState) (plan : HeldPlan) : Type 0 where
  pub own : core ≡ seen
  pub of_core : IsCoreOf tells keepers.told core
  pub can : CallCanBeDone core.settings core.sessions asked
  pub begun : IsBegun core.settings core.states core.sessions asked plan

pub starts_call : (tells : Bool) (asked : CheckedCall) (core seen : CoreState) (keepers : KeeperState) (plan : HeldPlan) (start : CallStart)
    (follower : NodeName) → core ≡ seen → IsCoreOf tells keepers.told seen → CallCanBeDone seen.settings seen.sessions asked
    → BeginsAt seen.states seen.sessions asked start follower
    → ((session : Session) → start ≡ call_start asked session → plan ≡ begun_plan core.settings session follower asked)
    → StartsCall tells asked core seen keepers plan
starts_call tells asked core seen keepers plan start follower own of can begins made = record {
  own = own;
  of_core = subst (IsCoreOf tells keepers.told) (sym own) of;
  can = subst (λ (x : CoreState). CallCanBeDone x.settings x.sessions asked) (sym own) can;
  begun = is_begun core.settings core.states core.sessions asked start follower plan
      (subst (λ (x : CoreState). BeginsAt x.states x.sessions asked start follower) (sym own) begins) made;
}

module _ (tells : Bool) (asked : CheckedCall) (core seen : CoreState) (before : KeeperState) (plan : HeldPlan)
    (starts : StartsCall tells asked core seen before plan) where
  pub starts_ready : (link : LinkShown) → CanPost tells core.settings (world_at core before link)
  starts_ready link = core_can_post tells core before link starts.of_core.is_consistent

  pub starts_under_way : IsUnderWay tells core.settings before.told core.fleet plan
  starts_under_way = is_under_way tells before core starts.of_core.is_consistent asked plan starts.begun starts.can

  -- ---- it was carried out

  module _ (now : KeeperState) (from to : LinkShown) (end : Nodes) (after : HeldPlan)
      (carries : CarriesOut (rules_of tells core.settings) plan (world_at core before from) after (world end now to))
      (under : IsUnderWay tells core.settings now.told end.fleet after)
      (on : PostsOn tells core.settings (world_at core before from) (world end now to)) where
    first : OpensFirst plan
    first = opens_first tells before core starts.of_core.is_consistent asked plan starts.begun starts.can

    goes : IsSome (next_stage plan)
    goes = goes_first tells before core starts.of_core.is_consistent asked plan starts.begun starts.can

    -- its session may learn of it
    pub call_learns : (reader : Option Reader) (passes : List SeenPass) → sessions_of passes ≡ core.sessions
        → HasRoomAlready (pens_of core.fleet.stores) plan reader passes → MayLearn (pens_of end.fleet.stores) after reader passes
    call_learns reader passes same =
        carried_learns tells core end before now from to plan after starts.of_core.is_consistent first goes carries under on reader passes same
        (author_first tells before core starts.of_core.is_consistent asked plan starts.begun starts.can)

    module _ (sessions : List Session) (reply : Reply) (over : IsOver after reply)
        (learns : LearnsOf (pens_of end.fleet.stores) after reply core.sessions sessions) where
      abbrev Left : Fleet → CoreState
      Left fleet = record core { fleet = fleet; mail = end.mail; states = end.topology; sessions = sessions }

      leaves : LeavesCore tells before now core (Left end.fleet)
      leaves = carried_leaves tells core end before now from to plan after starts.of_core.is_consistent first goes carries under on sessions reply over learns

      answered_here : CallLeaves tells asked (moment core before from) reply (moment (Left end.fleet) now to)
      answered_here = record {
        does = inl (record {
          plan = plan;
          begun = starts.begun;
          does = carried_does tells core end before now from to plan after starts.of_core.is_consistent first goes carries under on sessions reply over
              learns;
        });
        usable = core_goes_on tells before now core (Left end.fleet) starts.of_core leaves refl refl
            (learns_stay (pens_of end.fleet.stores) after reply core.sessions sessions learns);
      }

      -- it is answered so at the core that was seen, and leaves nodes that were lent once more
      pub answered_call : (fleet : Fleet) → fleet ≡ end.fleet → CallLeaves tells asked (moment seen before from) reply (moment (Left fleet) now to)
      answered_call fleet same =
          subst (λ f. CallLeaves tells asked (moment seen before from) reply (moment (Left f) now to)) (sym same)
          (subst (λ x. CallLeaves tells asked (moment x before from) reply (moment (Left end.fleet) now to)) starts.own answered_here)

-- ---- who is ready

-- who is ready for a read, by a note of the log of its shard, is there for its plan
pub reader_begun : (s : Settings) (states : NodeStates) (sessions : List Session) (read : CheckedRead) (plan : HeldPlan) (shard : ℕ) (old new : Fleet)
    (reader : Reader) (passes : List SeenPass) → IsBegun s states sessions (call.Read read) plan → shard ≡ query_shard read.query → new ≡ old
    → HasRoomForBoth read.session passes → (reader.session ≡ read.session) × (reader.note ≡ as_note (pens_of old.stores shard))
    → HasRoomAlready (pens_of new.stores) plan (Some reader) passes
reader_begun s states sessions read plan shard old new reader passes begun here same room is =
    subst (λ p. HasRoomAlready (pens_of new.stores) p (Some reader) passes) (sym begun.plan_is) (record {
      reader_is = ap Some (sym is.0);
      on = record {
        room = subst (λ n. HasRoomForBoth n passes) (sym is.0) room;
        one_log = subst (λ n. (pens_of new.stores n).log ≡ reader.note.log) here
            (ap (λ (f : Fleet). (pens_of f.stores shard).log) same ∙ sym (ap (λ (v : View). v.log) is.1));
      };
    })

-- there is room for what the session of a write learns
pub room_begun : (s : Settings) (states : NodeStates) (sessions : List Session) (write : CheckedWrite) (plan : HeldPlan) (pens : Pens)
    (passes : List SeenPass) → IsBegun s states sessions (call.Write write) plan → HasRoomForBoth write.session passes
    → HasRoomAlready pens plan None passes
room_begun s states sessions write plan pens passes begun room = subst (λ p. HasRoomAlready pens p None passes) (sym begun.plan_is) room

-- ---- refills

-- what the read of a refill leaves, and how it is replied
pub record RefillReads (tells : Bool) (node : NodeName) (refill : Refill) (old : Moment) (reply : Reply) (new : Moment) : Type 0 where
  pub does : DoesAtOnce tells (refill_plan old.core.settings node refill) old reply new
  pub leaves : LeavesCore tells old.keepers new.keepers old.core new.core

-- the plan that was begun for it
pub refill_is : (s : Settings) (node : NodeName) (refill : Refill) (region tier : ℕ) (read : Reading)
    → read ≡ at_bound s (new_reading refill.query region tier refill.floor false node) → region ≡ region_of node → tier ≡ home_tier node
    → of.Read read ≡ refill_plan s node refill
refill_is s node refill region tier read is of_region of_tier =
    ap of.Read (is ∙ ap (λ n. at_bound s (new_reading refill.query n tier refill.floor false node)) of_region
    ∙ ap (λ n. at_bound s (new_reading refill.query (region_of node) n refill.floor false node)) of_tier)

-- a read of which nothing is done, for that session
abbrev BeginsFor : Option ℕ → HeldPlan → Type 0
BeginsFor reader (of.Read p) = (p.at ≡ Looking) × (p.reader ≡ reader)
BeginsFor reader (of.Write p) = ⊥

module _ (tells : Bool) (node : NodeName) (refill : Refill) (core seen : CoreState) (own : core ≡ seen) (before now : KeeperState) (from to : LinkShown)
    (of_seen : IsConsistentCore tells before.told seen) (end : Nodes) (read after : Reading)
    (begun : of.Read read ≡ refill_plan core.settings node refill)
    (carries : CarriesOut (rules_of tells core.settings) (of.Read read) (world_at core before from) (of.Read after) (world end now to))
    (under : IsUnderWay tells core.settings now.told end.fleet (of.Read after))
    (on : PostsOn tells core.settings (world_at core before from) (world end now to)) where
  of_core : IsConsistentCore tells before.told core
  of_core = subst (IsConsistentCore tells before.told) (sym own) of_seen

  begun_for : BeginsFor None (of.Read read)
  begun_for = subst (BeginsFor None) (sym begun) (refl, refl)

  -- nobody is to learn of it
  nobody : after.reader ≡ None
  nobody =
      ended_reader (rules_of tells core.settings) read after (world_at core before from) (world end now to) begun_for.0 carries ∙ begun_for.1

  pub refill_reads : (reply : Reply) → IsOver (of.Read after) reply
      → RefillReads tells node refill (moment seen before from) reply
      (moment (record core { fleet = end.fleet; mail = end.mail; states = end.topology }) now to)
  refill_reads reply over =
      let first : OpensFirst (of.Read read) = subst OpensFirst (sym begun) refl in
      let goes : IsSome (next_stage (of.Read read)) = subst (λ p. IsSome (next_stage p)) (sym begun) refl in
      let learns = nobody_learns (pens_of end.fleet.stores) after reply core.sessions nobody in
      let then : CoreState = record core { fleet = end.fleet; mail = end.mail; states = end.topology } in
      subst (λ x. RefillReads tells node refill (moment x before from) reply (moment then now to)) own (record {
        does = subst (λ plan. DoesAtOnce tells plan (moment core before from) reply (moment then now to)) begun
            (carried_does tells core end before now from to (of.Read read) (of.Read after) of_core first goes carries under on core.sessions reply over
            learns);
        leaves = carried_leaves tells core end before now from to (of.Read read) (of.Read after) of_core first goes carries under on core.sessions reply
            over learns;
      })
