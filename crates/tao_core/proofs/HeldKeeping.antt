-- A core whose held plan did a stage, or took one more, may be used.
use Rattle.std.proofs.Common.{◌≡◌, ℕ, Bool, true, false, List, Option, Some, None, refl, ap, sym, ◌∙◌, subst, inl, inr}
use Rattle.std.specs.Prelude.{◌==◌, All, IfSome, IsSome, if◌then◌else◌, option_and_then}
use Rattle.std.proofs.lemmas.Bool.{cases_Bool, eq-eqb, eqb-true}
use Rattle.core_mail.specs.Inboxes.{AreInboxesOf, HaveArrived}
use Rattle.core_model.specs.Consistent.{GoesOn, IsConsistent}
use Rattle.core_model.specs.Cuts.{ArePastCuts}
use Rattle.core_model.specs.Fleet.{Fleet, HasAsk}
use Rattle.core_model.specs.Stores.{HaveMasterRegions}
use Rattle.core_model.specs.Growing.{StoresGrow, TablesGoOn}
use Rattle.core_model.specs.Pens.{Pens, pens_of}
use Rattle.core_model.proofs.Places.{one_some}
use Rattle.core_nodes.specs.Settling.{IsLaterLink}
use Rattle.core_plans.specs.Held.{
  ArePlansOf,
  CanStep,
  HoldsAsk,
  IsOpenAt,
  IsUnderWay,
  OpensFirst,
  Plans,
  SetsPlan,
  TakesPlan,
  next_stage,
  plan_at,
}
use Rattle.core_plans.specs.declared.held.HeldPlan.{HeldPlan}
use Rattle.core_plans.specs.declared.held.HeldPlan.TheVariants.{Read, Write}
use Rattle.core_sessions.specs.Sessions.{Session}
use Rattle.core_plans.proofs.WritesGoOn.{plan_later}
use Rattle.core_plans.specs.LedBy.{rules_of}
use Rattle.core_steps.specs.World.{world}
use Rattle.core_steps.specs.declared.nodes.Nodes.{Nodes}
use Rattle.graph_model.proofs.Members.{if_some_at}
use Rattle.graph_model.specs.Told.{WhereTold}
use Rattle.node_name.specs.declared.NodeName.{NodeName}
use Rattle.replies.specs.declared.plans.PlanReply.TheVariants.{Next}
use Rattle.replies.specs.declared.plans.Stage.{Stage}
use Rattle.replies.specs.declared.reply.Reply.{Reply}
use Rattle.replies.specs.declared.reply.Reply.TheVariants as replied
use Rattle.tao_base.specs.Queries.{query_key}
use Rattle.tao_base.specs.declared.id.Key.{Key}
use Rattle.tao_keeper.specs.Growing.{LogsGrow}
use Rattle.tao_keeper.specs.KeeperState.{KeeperState}
use Rattle.tao_keeper.specs.Table.{Tables}
use Rattle.tao_link.specs.Shown.{LinkShown}
use Rattle.topology.specs.Config.{Settings}
use Rattle.words.specs.declared.PlanWord.{PlanWord}
use Rattle.tao_core.specs.Calls.{world_at, world_of}
use Rattle.tao_core.specs.Core.{CoreState, IsConsistentCore, IsCoreOf, IsOfSession, IsSessionOf, Moment, moment}
use Rattle.tao_core.specs.HeldCalls.{AdvancesPlan, DoesStage, EndsPlan, Leaves, LearnsOf, StepsAt, held_seen, held_in, next_at, numbered_plan}
use Rattle.tao_core.proofs.HeldLearning.{advance_comes, author_advances, learns_ours, of_session_still}
use Rattle.tao_core.proofs.HeldSteps.{MayHold, StepsAsks, advance_asks, held_after, kept}
use Rattle.tao_core.proofs.Keeping.{still_past}
use Rattle.tao_core.proofs.LearningReads.{ReachesEnd}
use Rattle.tao_core.proofs.Reaching.{advance_reaches}
use Rattle.core_model.proofs.NamesOnce.{stand_alone}
use Rattle.tao_core.proofs.Told.{sessions_later}
use Rattle.core_model.specs.States.{AreStatesOf}

-- ---- one plan is set

set_same : (number other : ℕ) (held : Option HeldPlan) (old new : Plans) → SetsPlan number held old new → (other == number) ≡ true → plan_at new other ≡ held
set_same number other held old new sets same = sets other ∙ ap (λ b. if b then held else plan_at old other) same

set_other : (number other : ℕ) (held : Option HeldPlan) (old new : Plans) → SetsPlan number held old new → (other == number) ≡ false
    → plan_at new other ≡ plan_at old other
set_other number other held old new sets differs = sets other ∙ ap (λ b. if b then held else plan_at old other) differs

pub set_here : (number : ℕ) (held : Option HeldPlan) (old new : Plans) → SetsPlan number held old new → plan_at new number ≡ held
set_here number held old new sets = set_same number number held old new sets (eq-eqb number number refl)

-- what holds of the plan that was set, and of those that were there, holds of each
pub set_each : (number : ℕ) (held : Option HeldPlan) (old new : Plans) (P : HeldPlan → Type 0) → SetsPlan number held old new
    → ((plan : HeldPlan) → held ≡ Some plan → P plan) → ((other : ℕ) (plan : HeldPlan) → plan_at old other ≡ Some plan → P plan)
    → (other : ℕ) (plan : HeldPlan) → plan_at new other ≡ Some plan → P plan
set_each number held old new P sets mine others other plan there = elim (cases_Bool (other == number)) [
  | inl same ↦ mine plan (sym (set_same number other held old new sets same) ∙ there)
  | inr differs ↦ others other plan (sym (set_other number other held old new sets differs) ∙ there)
]

-- an ask that a plan holds was given
had : (tells : Bool) (s : Settings) (tables : Tables) (f : Fleet) (plans : Plans) (plan : ℕ) (found : Option HeldPlan) (name : NodeName) (number : ℕ)
    → ArePlansOf tells s tables f plans → plan_at plans plan ≡ found → HoldsAsk name number found → (key : Key) × HasAsk name number key f.followers
had tells s tables f plans plan None name number are at holds = absurd holds
had tells s tables f plans plan (Some (Write p)) name number are at holds = absurd holds
had tells s tables f plans plan (Some (Read p)) name number are at holds =
    let under = are.under_way plan (Read p) at in
    let one = if_some_at (λ n. HasAsk p.follower n (query_key p.query) f.followers) p.ask number under.ask holds.1 in
    (query_key p.query, subst (λ (n : NodeName). HasAsk n number (query_key p.query) f.followers) holds.0 one)

module _ (tells : Bool) (s : Settings) (before later : Tables) (f g : Fleet) (number : ℕ) (was held : Option HeldPlan) (old new : Plans)
    (are : ArePlansOf tells s before f old) (at : plan_at old number ≡ was) (sets : SetsPlan number held old new) where
  each : (P : HeldPlan → Type 0) → ((plan : HeldPlan) → held ≡ Some plan → P plan)
      → ((other : ℕ) (plan : HeldPlan) → plan_at old other ≡ Some plan → P plan) → (other : ℕ) (plan : HeldPlan) → plan_at new other ≡ Some plan → P plan
  each P = set_each number held old new P sets

  module _ (steps : StepsAsks was held f.followers g.followers) where
    mine : (name : NodeName) (ask : ℕ) → HoldsAsk name ask held → (plan : ℕ) × HoldsAsk name ask (plan_at new plan)
    mine name ask holds = (number, subst (HoldsAsk name ask) (sym (set_here number held old new sets)) holds)

    still_held : (name : NodeName) (ask : ℕ) → IsOpenAt name ask g.followers → (plan : ℕ) × HoldsAsk name ask (plan_at new plan)
    still_held name ask h = elim (steps.still name ask h) [
      | inl now ↦ mine name ask now
      | inr both ↦
          let of = are.asks.held name ask both.0 in
          elim (cases_Bool (of.0 == number)) [
            | inl same ↦ mine name ask (both.1 (subst (HoldsAsk name ask) (ap (plan_at old) (eqb-true of.0 number same) ∙ at) of.1))
            | inr differs ↦ (of.0, subst (HoldsAsk name ask) (sym (set_other number of.0 held old new sets differs)) of.1)
          ]
    ]

    -- no other plan holds an ask of it
    alone : (name : NodeName) (ask other : ℕ) → HoldsAsk name ask held → HoldsAsk name ask (plan_at old other) → number ≡ other
    alone name ask other holds theirs = elim (steps.fresh name ask holds) [
      | inl so ↦ are.asks.one name ask number other (subst (HoldsAsk name ask) (sym at) so) theirs
      | inr none ↦ (let given = had tells s before f old other (plan_at old other) name ask are refl theirs in absurd (none given.0 given.1))
    ]

    one_held : (name : NodeName) (ask m n : ℕ) → HoldsAsk name ask (plan_at new m) → HoldsAsk name ask (plan_at new n) → m ≡ n
    one_held name ask m n one two = elim (cases_Bool (m == number)) [
      | inl m_is ↦
          let held_m = subst (HoldsAsk name ask) (set_same number m held old new sets m_is) one in
          elim (cases_Bool (n == number)) [
            | inl n_is ↦ eqb-true m number m_is ∙ sym (eqb-true n number n_is)
            | inr n_not ↦ eqb-true m number m_is
                ∙ alone name ask n held_m (subst (HoldsAsk name ask) (set_other number n held old new sets n_not) two)
          ]
      | inr m_not ↦
          let old_m = subst (HoldsAsk name ask) (set_other number m held old new sets m_not) one in
          elim (cases_Bool (n == number)) [
            | inl n_is ↦ sym (alone name ask m (subst (HoldsAsk name ask) (set_same number n held old new sets n_is) two) old_m)
                ∙ sym (eqb-true n number n_is)
            | inr n_not ↦ are.asks.one name ask m n old_m (subst (HoldsAsk name ask) (set_other number n held old new sets n_not) two)
          ]
    ]

    may_first : (plan : HeldPlan) → held ≡ Some plan → OpensFirst plan
    may_first plan is = subst MayHold is steps.may

    pub plans_set : GoesOn f g → TablesGoOn tells s before later → IsConsistent tells s later g
        → ((plan : HeldPlan) → held ≡ Some plan → IsUnderWay tells s later g plan × IsSome (next_stage plan)) → ArePlansOf tells s later g new
    plans_set goes grows consistent can = record {
      under_way = each (IsUnderWay tells s later g) (λ plan is. (can plan is).0)
          (λ other plan there. plan_later tells s before later f g plan consistent goes grows (are.under_way other plan there));
      goes_on = each (λ plan. IsSome (next_stage plan)) (λ plan is. (can plan is).1) are.goes_on;
      begun = each OpensFirst may_first are.begun;
      asks = record { held = still_held; one = one_held };
    }

-- ---- a plan can do its stage

can_found : (tells : Bool) (s : Settings) (tables : Tables) (f : Fleet) (plans : Plans) (number : ℕ) (found : Option HeldPlan) → plan_at plans number ≡ found
    → IsSome found → ArePlansOf tells s tables f plans → CanStep tells s tables f found
can_found tells s tables f plans number None at there are = absurd (cc)
can_found tells s tables f plans number (Some plan) at there are =
    record { under_way = are.under_way number plan at; goes_on = are.goes_on number plan at }

pub can_step : (tells : Bool) (tables : Tables) (core : CoreState) (number : ℕ) → IsCoreOf tells tables core → IsSome (plan_at core.plans number)
    → CanStep tells core.settings tables core.fleet (plan_at core.plans number)
can_step tells tables core number of there =
    can_found tells core.settings tables core.fleet core.plans number (plan_at core.plans number) refl there of.plans

-- the nodes and their messages are as consistent with other plans
pub with_plans : (tells : Bool) (tables : Tables) (core : CoreState) (plans : Plans) → IsConsistentCore tells tables core
    → IsConsistentCore tells tables (record core { plans = plans })
with_plans tells tables core plans of = record {
  masters = of.masters;
  consistent = of.consistent;
  states = of.states;
  mail = of.mail;
  arrived = of.arrived;
  sessions = of.sessions;
}

-- and with other sessions, each of which is one of the core
pub with_sessions : (tells : Bool) (tables : Tables) (core : CoreState) (plans : Plans) (sessions : List Session) → IsConsistentCore tells tables core
    → All (IsSessionOf tells core.settings tables (pens_of core.fleet.stores)) sessions
    → IsConsistentCore tells tables (record core { plans = plans; sessions = sessions })
with_sessions tells tables core plans sessions of all = record {
  masters = of.masters;
  consistent = of.consistent;
  states = of.states;
  mail = of.mail;
  arrived = of.arrived;
  sessions = all;
}

-- and after a step of one of them
pub stepped_core : (tells : Bool) (tables later : Tables) (core : CoreState) (end : Nodes) (plans : Plans)
    → IsConsistentCore tells tables core → end.topology ≡ core.states → IsConsistent tells core.settings later end.fleet
    → AreInboxesOf core.settings (pens_of end.fleet.stores) end.mail
    → WhereTold tells (HaveArrived later end.mail) → GoesOn core.fleet end.fleet → LogsGrow tells tables later
    → IsConsistentCore tells later (record core { fleet = end.fleet; mail = end.mail; states = end.topology; plans = plans })
stepped_core tells tables later core end plans of same consistent inboxes arrived goes grows = record {
  masters = of.masters;
  consistent = consistent;
  states = subst (AreStatesOf core.settings) (sym same) of.states;
  mail = inboxes;
  arrived = arrived;
  sessions = sessions_later tells core.settings tables later (pens_of core.fleet.stores) (pens_of end.fleet.stores) core.sessions grows goes.rise
      of.sessions;
}

-- ---- a plan did a stage

module _ (tells : Bool) (number : ℕ) (old mid : Moment) (does : DoesStage tells number old mid) where
  abbrev After : HeldPlan
  After = does.steps.after

  at_after : plan_at mid.core.plans number ≡ Some After
  at_after = set_here number (Some After) old.core.plans mid.core.plans does.steps.changes.sets

  consistent_here : IsConsistentCore tells mid.keepers.told mid.core → mid.core.settings ≡ old.core.settings
      → IsConsistent tells old.core.settings mid.keepers.told mid.core.fleet
  consistent_here is own = subst (λ s. IsConsistent tells s mid.keepers.told mid.core.fleet) own is.consistent

  next_is : next_at mid.core.plans number ≡ next_stage After
  next_is = ap (option_and_then next_stage) at_after

  -- the version that it answers has come to the log, where it answers any
  comes_after : ReachesEnd tells old.core.settings mid.keepers.told After
  comes_after = advance_comes (rules_of tells old.core.settings) does.steps.before After (world_of old) (world_of mid) does.steps.steps

  pub comes_there : (plan : HeldPlan) → plan_at mid.core.plans number ≡ Some plan → ReachesEnd tells old.core.settings mid.keepers.told plan
  comes_there plan there = subst (ReachesEnd tells old.core.settings mid.keepers.told) (one_some After plan (sym at_after ∙ there)) comes_after

  module _ (of : IsCoreOf tells old.keepers.told old.core) where
    asks_of : StepsAsks (Some does.steps.before) (held_after After) old.core.fleet.followers mid.core.fleet.followers
    asks_of =
        advance_asks (rules_of tells old.core.settings) does.steps.before After (world_of old) (world_of mid)
        (stand_alone old.core.settings old.core.fleet.followers of.is_consistent.consistent.fleet.follower_names)
        (of.plans.begun number does.steps.before does.steps.stands) does.steps.steps

    can_after : (next : Option Stage) (later : Tables) → next_stage After ≡ next
        → IfSome (plan_at mid.core.plans number) (IsUnderWay tells old.core.settings later mid.core.fleet) → (plan : HeldPlan) → kept next After ≡ Some plan
        → IsUnderWay tells old.core.settings later mid.core.fleet plan × IsSome (next_stage plan)
    can_after None later is under plan h = absurd (cc)
    can_after (Some stage) later is under plan h =
        let same : After ≡ plan = one_some After plan h in
        subst (λ x. IsUnderWay tells old.core.settings later mid.core.fleet x × IsSome (next_stage x)) same (
          if_some_at (IsUnderWay tells old.core.settings later mid.core.fleet) (plan_at mid.core.plans number) After under at_after,
          subst IsSome (sym is) refl,
        )

    -- what is held then, where the plan stays or goes
    pub held_then : (next : Option Stage) (plans : Plans) (later : Tables) → next_stage After ≡ next → SetsPlan number (kept next After) old.core.plans plans
        → GoesOn old.core.fleet mid.core.fleet → TablesGoOn tells old.core.settings old.keepers.told later
        → IsConsistent tells old.core.settings later mid.core.fleet
        → IfSome (plan_at mid.core.plans number) (IsUnderWay tells old.core.settings later mid.core.fleet)
        → ArePlansOf tells old.core.settings later mid.core.fleet plans
    held_then next plans later is sets goes grows consistent under =
        plans_set tells old.core.settings old.keepers.told later old.core.fleet mid.core.fleet number (Some does.steps.before) (kept next After)
        old.core.plans plans of.plans does.steps.stands sets
        (subst (λ n. StepsAsks (Some does.steps.before) (kept n After) old.core.fleet.followers mid.core.fleet.followers) is asks_of) goes grows consistent
        (can_after next later is under)

    -- no node lies behind a cut then
    past_then : GoesOn old.core.fleet mid.core.fleet → StoresGrow tells old.core.settings old.keepers.told mid.keepers.told
        → WhereTold tells (ArePastCuts mid.keepers.told mid.core.fleet)
    past_then goes grows =
        still_past tells old.core.settings old.keepers.told mid.keepers.told old.core.fleet mid.core.fleet of.is_consistent.masters
        of.is_consistent.consistent goes grows of.past

    author_after : IsOfSession old.core.sessions After
    author_after =
        author_advances (rules_of tells old.core.settings) does.steps.before After (world_of old) (world_of mid)
        old.core.sessions does.steps.steps (of.authors number does.steps.before does.steps.stands)

    pub author_held : (sessions : List Session) → old.core.sessions ≡ sessions → (other : ℕ) (plan : HeldPlan) → plan_at mid.core.plans other ≡ Some plan
        → IsOfSession sessions plan
    author_held sessions same other plan there =
        subst (λ xs. IsOfSession xs plan) same
        (set_each number (Some After) old.core.plans mid.core.plans (IsOfSession old.core.sessions) does.steps.changes.sets
        (λ one is. subst (IsOfSession old.core.sessions) (one_some After one is) author_after) of.authors other plan there)

    -- the plan is held before the stage that follows
    pub next_core : (stage : Stage) → next_at mid.core.plans number ≡ Some stage → IsConsistentCore tells mid.keepers.told mid.core
        → mid.core.settings ≡ old.core.settings → mid.core.sessions ≡ old.core.sessions → GoesOn old.core.fleet mid.core.fleet
        → StoresGrow tells old.core.settings old.keepers.told mid.keepers.told
        → IfSome (plan_at mid.core.plans number) (IsUnderWay tells old.core.settings mid.keepers.told mid.core.fleet)
        → IsCoreOf tells mid.keepers.told mid.core
    next_core stage next is own same goes grows under = record {
      is_consistent = is;
      past = past_then goes grows;
      plans = subst (λ s. ArePlansOf tells s mid.keepers.told mid.core.fleet mid.core.plans) (sym own)
          (held_then (Some stage) mid.core.plans mid.keepers.told (sym next_is ∙ next) does.steps.changes.sets goes grows.on (consistent_here is own)
          under);
      authors = author_held mid.core.sessions (sym same);
    }

  -- ---- it is over, and was taken out

  abbrev NewPens : Pens
  NewPens = pens_of mid.core.fleet.stores

  module _ (later : Plans) (sessions : List Session) (reply : Reply) (over : next_at mid.core.plans number ≡ None)
      (ends : IfSome (plan_at mid.core.plans number)
      (λ plan. EndsPlan number plan (held_seen mid.core.plans old.core.sessions NewPens) reply (held_seen later sessions NewPens))) where
    ends_after : EndsPlan number After (held_seen mid.core.plans old.core.sessions NewPens) reply (held_seen later sessions NewPens)
    ends_after =
        if_some_at (λ plan. EndsPlan number plan (held_seen mid.core.plans old.core.sessions NewPens) reply (held_seen later sessions NewPens))
        (plan_at mid.core.plans number) After ends at_after

    gone : (other : ℕ) → plan_at later other ≡ (if other == number then None else plan_at old.core.plans other)
    gone other = elim (cases_Bool (other == number)) [
      | inl same ↦ set_same number other None mid.core.plans later ends_after.takes.sets same
          ∙ sym (ap (λ b. if b then None else plan_at old.core.plans other) same)
      | inr differs ↦ set_other number other None mid.core.plans later ends_after.takes.sets differs
          ∙ set_other number other (Some After) old.core.plans mid.core.plans does.steps.changes.sets differs
          ∙ sym (ap (λ b. if b then None else plan_at old.core.plans other) differs)
    ]

    takes : TakesPlan number old.core.plans later
    takes = record { sets = gone; count = ends_after.takes.count ∙ does.steps.changes.count }

    is_over : next_stage After ≡ None
    is_over = sym next_is ∙ over

    pub ends_here : EndsPlan number After (held_in old.core) reply (held_seen later sessions NewPens)
    ends_here = record { ended = ends_after.ended; over = ends_after.over; said = ends_after.said; takes = takes; learns = ends_after.learns }

    -- the session that learnt of it is one of the core, as all others
    learnt_core : IsConsistentCore tells mid.keepers.told mid.core → mid.core.settings ≡ old.core.settings → mid.core.sessions ≡ old.core.sessions
        → IfSome (plan_at mid.core.plans number) (IsUnderWay tells old.core.settings mid.keepers.told mid.core.fleet)
        → All (IsSessionOf tells mid.core.settings mid.keepers.told NewPens) sessions
    learnt_core is own same under =
        let here = if_some_at (IsUnderWay tells old.core.settings mid.keepers.told mid.core.fleet) (plan_at mid.core.plans number) After under at_after in
        learns_ours tells mid.core.settings mid.keepers.told mid.core.fleet is.masters is.consistent.stores After ends_after.ended mid.core.sessions sessions
        (subst (λ s. IsUnderWay tells s mid.keepers.told mid.core.fleet After) (sym own) here) ends_after.over
        (subst (λ s. ReachesEnd tells s mid.keepers.told After) (sym own) comes_after)
        (subst (λ xs. LearnsOf NewPens After ends_after.ended xs sessions) (sym same) ends_after.learns) is.sessions

    pub ends_core : (of : IsCoreOf tells old.keepers.told old.core) → IsConsistentCore tells mid.keepers.told mid.core
        → mid.core.settings ≡ old.core.settings → mid.core.sessions ≡ old.core.sessions → GoesOn old.core.fleet mid.core.fleet
        → StoresGrow tells old.core.settings old.keepers.told mid.keepers.told
        → IfSome (plan_at mid.core.plans number) (IsUnderWay tells old.core.settings mid.keepers.told mid.core.fleet)
        → IsCoreOf tells mid.keepers.told (record mid.core { plans = later; sessions = sessions })
    ends_core of is own same goes grows under = record {
      is_consistent = with_sessions tells mid.keepers.told mid.core later sessions is (learnt_core is own same under);
      past = past_then of goes grows;
      plans = subst (λ s. ArePlansOf tells s mid.keepers.told mid.core.fleet later) (sym own)
          (held_then of None later mid.keepers.told is_over gone goes grows.on (consistent_here is own) under);
      authors = set_each number None mid.core.plans later (IsOfSession sessions) ends_after.takes.sets (λ one is. absurd (cc))
          (λ other plan there. of_session_still NewPens After ends_after.ended old.core.sessions sessions plan ends_after.learns
          (author_held of old.core.sessions refl other plan there));
    }

  -- ---- what is replied

  -- it is held before the stage that follows
  pub next_steps : (asked : PlanWord) (stage : Stage) (sessions : List Session) (reply : Reply) → next_at mid.core.plans number ≡ Some stage
      → reply ≡ replied.Plan (Next asked number stage) → sessions ≡ old.core.sessions
      → mid.core ≡ record old.core { fleet = mid.core.fleet; mail = mid.core.mail; plans = mid.core.plans }
      → StepsAt tells asked number old reply (record mid { core = record mid.core { sessions = sessions } })
  next_steps asked stage sessions reply next told same rest = record {
    before = does.steps.before;
    after = After;
    stands = does.steps.stands;
    steps = does.steps.steps;
    reaches = does.reaches;
    leaves = subst (λ n. Leaves asked (numbered_plan number After) n (held_in old.core) reply (held_seen mid.core.plans sessions NewPens))
        (sym next ∙ next_is)
        (record { said = told; changes = does.steps.changes; sessions = same });
    link = does.link;
    rest = ap (λ (x : CoreState). record x { sessions = sessions }) rest;
  }

  -- or over, and was taken out
  pub end_steps : (asked : PlanWord) (later : Plans) (sessions : List Session) (reply : Reply) → next_at mid.core.plans number ≡ None
      → IfSome (plan_at mid.core.plans number)
      (λ plan. EndsPlan number plan (held_seen mid.core.plans old.core.sessions NewPens) reply (held_seen later sessions NewPens))
      → mid.core ≡ record old.core { fleet = mid.core.fleet; mail = mid.core.mail; plans = mid.core.plans }
      → StepsAt tells asked number old reply (record mid { core = record mid.core { plans = later; sessions = sessions } })
  end_steps asked later sessions reply over ends rest = record {
    before = does.steps.before;
    after = After;
    stands = does.steps.stands;
    steps = does.steps.steps;
    reaches = does.reaches;
    leaves = subst (λ n. Leaves asked (numbered_plan number After) n (held_in old.core) reply (held_seen later sessions NewPens)) (sym over ∙ next_is)
        (ends_here later sessions reply over ends);
    link = does.link;
    rest = ap (λ (x : CoreState). record x { plans = later; sessions = sessions }) rest;
  }

-- ---- a stage is done

pub does_stage : (tells : Bool) (number : ℕ) (core : CoreState) (end : Nodes) (plans : Plans) (before now : KeeperState)
    (from to : LinkShown) → IsLaterLink from to
    → AdvancesPlan (rules_of tells core.settings) number core.plans (world_at core before from) plans (world end now to)
    → HaveMasterRegions core.settings → IsConsistent tells core.settings now.told end.fleet
    → IfSome (plan_at plans number) (IsUnderWay tells core.settings now.told end.fleet)
    → DoesStage tells number (moment core before from)
    (moment (record core { fleet = end.fleet; mail = end.mail; states = end.topology; plans = plans }) now to)
does_stage tells number core end plans before now from to link steps masters consistent under = record {
  steps = steps;
  reaches = advance_reaches (rules_of tells core.settings) steps.before steps.after (world_at core before from) (world end now to) now.told end.fleet
      steps.steps masters consistent
      (if_some_at (IsUnderWay tells core.settings now.told end.fleet) (plan_at plans number) steps.after under
      (set_here number (Some steps.after) core.plans plans steps.changes.sets));
  link = link;
}
