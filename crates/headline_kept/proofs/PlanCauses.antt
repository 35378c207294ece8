-- Each refusal of a line of a call, held or not, has its cause.
use Rattle.std.proofs.Common.{◌≡◌, ◌∙◌, ℕ, zero, suc, Bool, true, Option, Some, None, refl, sym, ap, subst, inl, inr}
use Rattle.std.proofs.lemmas.Bool.{eq-eqb}
use Rattle.std.specs.Prelude.{◌⊎◌, option_and_then}
use Rattle.core_model.specs.Stores.{HaveMasterRegions}
use Rattle.core_nodes.specs.Outside.{Outside}
use Rattle.core_plans.specs.Held.{IsOver, StepsReadAlone, next_stage, plan_at}
use Rattle.core_plans.specs.HeldReads.{EndsRead, read_has_no_room}
use Rattle.core_plans.specs.HeldWrites.{ComesOfWrite, call_of_plan, entry_position, way_given_up}
use Rattle.core_plans.specs.LedBy.{rules_of}
use Rattle.core_plans.specs.Needs.{leaders_of_write, read_down, write_down}
use Rattle.core_plans.specs.declared.held.HeldPlan.{HeldPlan}
use Rattle.core_plans.specs.declared.held.HeldPlan.TheVariants as of
use Rattle.core_steps.specs.World.{World, outside_of}
use Rattle.core_model.specs.Asked.{AuthoredWrite}
use Rattle.core_sessions.specs.Sessions.{Session, session_at}
use Rattle.graph_model.specs.Told.{WhereTold}
use Rattle.node_name.specs.declared.NodeName.{NodeName}
use Rattle.read_plan.specs.Readings.{Reading}
use Rattle.replies.specs.declared.refusals.NodeRefused.TheVariants.{NoServer, NodeDown}
use Rattle.replies.specs.declared.refusals.Refusal.{Refusal}
use Rattle.replies.specs.declared.refusals.Refusal.TheVariants.{Memory, Node}
use Rattle.replies.specs.declared.refusals.When.{When}
use Rattle.replies.specs.declared.refusals.When.TheVariants.{After, Before}
use Rattle.replies.specs.declared.reply.Reply.TheVariants.{Refused}
use Rattle.request_check.specs.Placed.{IsPlacedCall}
use Rattle.request_check.specs.declared.checked.Checked.{Checked}
use Rattle.request_check.specs.declared.checked.Checked.TheVariants as asked
use Rattle.request_check.specs.declared.checked.CheckedCall.{CheckedCall}
use Rattle.request_check.specs.declared.checked.CheckedCall.TheVariants as call
use Rattle.request_check.specs.declared.plans.CheckedPlan.{CheckedPlan}
use Rattle.request_check.specs.declared.plans.CheckedPlan.TheVariants as plan
use Rattle.requests.specs.declared.request.Request.{Request}
use Rattle.shard_tables.specs.Written.{IsLogFull}
use Rattle.tao_base.specs.Writes.{write_shard}
use Rattle.tao_base.specs.declared.entry.Entry.{Entry}
use Rattle.tao_base.specs.declared.entry.Origin.TheVariants.{Client}
use Rattle.tao_core.specs.Calls.{world_of}
use Rattle.tao_core.specs.Core.{IsCoreOf, Moment, outside_at}
use Rattle.tao_core.specs.HeldCalls.{Advances, AnswersCall, AnswersPlan, DoesAtOnce, HoldGoes, IsNotBegun, RefusesCall, StepsAt}
use Rattle.tao_core.specs.HeldCalls.{begun_plan, call_session, call_shard}
use Rattle.tao_keeper.specs.KeeperState.{KeepsTables}
use Rattle.tao_keeper.specs.Table.{Stays, Tables}
use Rattle.topology.specs.Choices.{master_region}
use Rattle.topology.specs.Config.{Settings}
use Rattle.topology.specs.States.{is_up}
use Rattle.words.specs.declared.PlanWord.TheVariants as word
use Rattle.write_plan.specs.Plans.{Writing, answered_entry, begun_write, when_of}
use Rattle.headline_kept.specs.Causes.{CallServerCause, FullCause, HasCause, NodeCause, OfWrite, PlanServerCause, plan_down}
use Rattle.headline_kept.specs.Standing.{Asks, StandsAt, StandsTold, StandsWhen, write_of, write_of_call, write_of_plan}
use Rattle.headline_kept.proofs.CallCauses.{Refuses, chosen_up, first_is, its_stand, leaves_over, no_leader, read_at_once, read_cause, write_at_once}
use Rattle.headline_kept.proofs.CallCauses.{write_cause, write_refusal}
use Rattle.headline_kept.proofs.NotAsked.{asked_placed}
use Rattle.headline_kept.proofs.StageCauses.{DownAt, ReadCause, ended_so, read_stage_fails, refusal_so, write_stage_fails}
use Rattle.headline_kept.proofs.WholeCauses.{stands_when}

-- ---- tables that stay

-- tables that stay the same are one
same_tables : (old new : Tables) → Stays old new → new ≡ old
same_tables old new stays = λ i at. stays at i

-- what stands then stands
pub stands_still : (tells : Bool) (s : Settings) (old new : Tables) (write : Option AuthoredWrite) (when : When) → WhereTold tells (Stays old new)
    → StandsWhen tells s old write when → StandsWhen tells s new write when
stands_still tells s old new write Before stays stands = tt
stands_still tells s old new None (After position) stays stands = absurd stands
stands_still tells s old new (Some w) (After position) stays stands = λ told.
    subst (λ t. StandsAt s t w position) (sym (same_tables old new (stays told))) (stands told)

-- a refusal of a held call has its cause, and no table changed
pub record RefusesHeld (tells : Bool) (old : Moment) (request : Request) (refusal : Refusal) (new : Moment) : Type 0 where
  pub cause : HasCause tells old request refusal new
  pub same : KeepsTables tells old.keepers new.keepers

-- ---- calls that aren't held

module _ (tells : Bool) (old : Moment) (request : Request) (new : Moment) (core : IsCoreOf tells old.keepers.told old.core) where
  abbrev s : Settings
  s = old.core.settings

  regions : HaveMasterRegions s
  regions = core.is_consistent.masters

  -- none is begun
  not_begun : (what : Checked) (made : CheckedCall) (refusal : Refusal) → Asks old request what
      → ((region : ℕ) → CallServerCause made old.core region → HasCause tells old request (Node (NoServer region)) new)
      → IsNotBegun old.core.states old.core.sessions made (Refused refusal) → HasCause tells old request refusal new
  not_begun what (call.Write write) (Node (NoServer region)) asks server is = server region (inl is)
  not_begun what (call.Read read) (Node (NoServer region)) asks server is = server region is
  not_begun what made (Memory position) asks server is = subst (λ n. HasCause tells old request (Memory n) new) (sym is) tt
  not_begun what made refusal asks server is = absurd is

  refuses_call : (what : Checked) (made : CheckedCall) (refusal : Refusal) → Asks old request what
      → ((region : ℕ) → CallServerCause made old.core region → HasCause tells old request (Node (NoServer region)) new)
      → RefusesCall made old (Refused refusal) new → RefusesHeld tells old request refusal new
  refuses_call what made refusal asks server is = record {
    cause = not_begun what made refusal asks server is.refused;
    same = λ told at. ap (λ (m : Moment). m.keepers.told at) is.same;
  }

  call_goes : (made : CheckedCall) (refusal : Refusal) → Asks old request (asked.Call made) → (session : Session) (follower : NodeName)
      → session_at old.core.sessions (call_session made) ≡ Some session → is_up old.core.states follower ≡ true
      → DoesAtOnce tells (begun_plan s session follower made) old (Refused refusal) new → Refuses tells old request refusal new
  call_goes (call.Read read) refusal asks session follower found up does =
      let out = read_at_once tells old new refusal _ (record { at = refl; hops = refl; store = refl }) up does in
      record {
        cause = read_cause tells old request (asked.Call (call.Read read)) new asks _ (λ node when h. absurd h) refusal out.0;
        same = λ small. out.1;
      }
  call_goes (call.Write write) refusal asks session follower found up does =
      let p = begun_write write.write (Client write.session write.seq) session.region session.tier follower in
      let out = write_at_once tells old new refusal p regions (record { uncommitted = refl; unrefused = refl; hops = refl }) up does in
      record {
        cause = write_cause tells old request (asked.Call (call.Write write)) new asks (out.entry ≡ None) (call_of_plan p) out.entry _ _ refl out.stands
            (λ node when h. absurd h)
            (λ region first h. inr (record {
              session = session;
              found = found;
              none = no_leader s old.core.states p region (asked_placed old request (asked.Call (call.Write write)) asks).configured h.0 h.1;
            }))
            (λ count h. h) refusal out.cause;
        same = out.same;
      }

  -- a call that isn't held
  pub call_line : (made : CheckedCall) (refusal : Refusal) → Asks old request (asked.Call made) → AnswersCall tells made old (Refused refusal) new
      → Refuses tells old request refusal new
  call_line made refusal asks (inl goes) =
      let b = goes.begun in
      call_goes made refusal asks b.session b.follower b.found
      (chosen_up old.core.states b.session.region b.session.tier (call_shard made) b.follower b.chosen)
      (subst (λ plan. DoesAtOnce tells plan old (Refused refusal) new) b.plan_is goes.does)
  call_line made refusal asks (inr refuses) =
      let says = refuses_call (asked.Call made) made refusal asks (λ region h. (asked.Call made, asks, h)) refuses in
      record { cause = says.cause; same = λ small. says.same }

  -- ---- stages of held calls

  -- of a read
  module _ (what : Checked) (asks : Asks old request what) (p : Reading)
      (down : (node : NodeName) (when : When) → (read_down old.core.states p ≡ Some node) × (when ≡ Before) → NodeCause tells what old (NodeDown node when) new)
    where
      held_read : (q : Reading) (mid : World) (refusal : Refusal) → outside_of mid ≡ outside_at old → mid.states ≡ old.core.states
          → StepsReadAlone (rules_of tells s) p mid q (world_of new) → IsOver (of.Read q) (Refused refusal) → RefusesHeld tells old request refusal new
      held_read q mid refusal outside states steps over =
          let fails = read_stage_fails (rules_of tells s) p q mid (world_of new) steps.steps.does in
          let why = refusal_so (ReadCause (DownAt mid.states p) (outside_of mid) (outside_at new)) q.at q refusal fails over in
          record {
            cause = read_cause tells old request what new asks (DownAt old.core.states p) down refusal
                (subst (λ x. ReadCause (DownAt x p) (outside_at old) (outside_at new) refusal) states
                (subst (λ o. ReadCause (DownAt mid.states p) o (outside_at new) refusal) outside why));
            same = λ told at. steps.tables told at ∙ ap (λ (o : Outside). o.keepers.told at) outside;
          }

  -- a read that gives up is refused as out of memory
  read_gives_up : (p q : Reading) (refusal : Refusal) → EndsRead read_has_no_room p (world_of old) q (world_of new) → IsOver (of.Read q) (Refused refusal)
      → RefusesHeld tells old request refusal new
  read_gives_up p q refusal gives over =
      let IsWant : Refusal → Type 0 = λ r. r ≡ Memory 0 in
      let is = refusal_so IsWant q.at q refusal (ended_so IsWant p q (world_of old) (world_of new) (Memory 0) gives refl) over in
      record {
        cause = subst (λ r. HasCause tells old request r new) (sym is) tt;
        same = λ told at. ap (λ (w : World). w.keepers.told at) gives.rest;
      }

  abbrev Leaderless : Writing → ℕ → Type 0
  Leaderless p region = (leaders_of_write s old.core.states p ≡ None) × (region ≡ master_region old.core.states (write_shard p.write))

  abbrev Down : Writing → NodeName → When → Type 0
  Down p node when = (write_down old.core.states p ≡ Some node) × (when ≡ when_of (answered_entry p))

  -- of a write, whose entry stands
  module _ (what : Checked) (asks : Asks old request what) (p : Writing) (is : write_of old.core.plans what ≡ Some (call_of_plan p))
      (stands : StandsWhen tells s old.keepers.told (Some (call_of_plan p)) (when_of (answered_entry p)))
      (down : (node : NodeName) (when : When) → write_down old.core.states p ≡ Some node
      → StandsWhen tells s new.keepers.told (write_of old.core.plans what) when → NodeCause tells what old (NodeDown node when) new)
      (server : (region : ℕ) → p.committed ≡ None → Leaderless p region → NodeCause tells what old (NoServer region) new)
      (full : (count : ℕ) → OfWrite tells s old.keepers (write_of old.core.plans what) (λ write. IsLogFull write count) → FullCause tells what old count new)
    where
      held_write : (q : Writing) (refusal : Refusal) → ComesOfWrite (rules_of tells s) p (world_of old) q (world_of new)
          → IsOver (of.Write q) (Refused refusal) → RefusesHeld tells old request refusal new
      held_write q refusal steps over =
          let fails = write_refusal _ q refusal (write_stage_fails (rules_of tells s) p q (world_of old) (world_of new) steps) over in
          let now = stands_still tells s old.keepers.told new.keepers.told (Some (call_of_plan p)) (when_of (answered_entry p)) fails.same stands in
          record {
            cause = write_cause tells old request what new asks (p.committed ≡ None) (call_of_plan p) (answered_entry p) _ _ is now
                (λ node when h. down node when h.0
                (its_stand tells old request what new asks (p.committed ≡ None) (call_of_plan p) (answered_entry p) (Leaderless p) (Down p) is now when h.1))
                server full refusal fails.cause;
            same = fails.same;
          }

  -- of a read or a write that is advanced
  module _ (number : ℕ) (asks : Asks old request (asked.Plan (plan.Advance number))) where
    abbrev what : Checked
    what = asked.Plan (plan.Advance number)

    -- at the position of its entry there may be no memory
    memory_at : (n : ℕ) → StandsTold tells s new.keepers.told (write_of old.core.plans what) n → HasCause tells old request (Memory n) new
    memory_at zero stands = tt
    memory_at (suc n) stands = (what, asks, stands)

    memory_so : (entry : Option Entry) → StandsWhen tells s new.keepers.told (write_of old.core.plans what) (when_of entry)
        → HasCause tells old request (Memory (entry_position entry)) new
    memory_so None stands = tt
    memory_so (Some e) stands = memory_at e.position stands

    module _ (p : Writing) (at : plan_at old.core.plans number ≡ Some (of.Write p)) where
      its_write : write_of old.core.plans what ≡ Some (call_of_plan p)
      its_write = ap (option_and_then write_of_plan) at

      was : StandsWhen tells s old.keepers.told (Some (call_of_plan p)) (when_of (answered_entry p))
      was = stands_when tells s old.keepers.told old.core.fleet p regions core.is_consistent.consistent (core.plans.under_way number (of.Write p) at)

      gives_up : (q : Writing) (refusal : Refusal) → q ≡ way_given_up p → world_of new ≡ world_of old → IsOver (of.Write q) (Refused refusal)
          → RefusesHeld tells old request refusal new
      gives_up q refusal given same over =
          let replied : Some (Refused (Memory (entry_position (answered_entry p)))) ≡ Some (Refused refusal) =
          subst (λ x. IsOver (of.Write x) (Refused refusal)) given over in
          let is : Memory (entry_position (answered_entry p)) ≡ refusal = cc in
          let stays : WhereTold tells (Stays old.keepers.told new.keepers.told) = λ told at. ap (λ (w : World). w.keepers.told at) same in
          record {
            cause = subst (λ r. HasCause tells old request r new) is (memory_so (answered_entry p)
                (subst (λ w. StandsWhen tells s new.keepers.told w (when_of (answered_entry p))) (sym its_write)
                (stands_still tells s old.keepers.told new.keepers.told (Some (call_of_plan p)) (when_of (answered_entry p)) stays was)));
            same = stays;
          }

    advances : (before after : HeldPlan) (refusal : Refusal) → plan_at old.core.plans number ≡ Some before
        → Advances (rules_of tells s) before (world_of old) after (world_of new) → IsOver after (Refused refusal) → RefusesHeld tells old request refusal new
    advances (of.Read p) (of.Read q) refusal at (inl steps) over =
        held_read what asks p (λ node when h. (
          (subst (λ o. plan_down old.core.states o ≡ Some node) (sym at) h.0, first_is old.core.states _ node h.0),
          subst (StandsWhen tells s new.keepers.told (write_of old.core.plans what)) (sym h.1) tt,
        )) q (world_of old) refusal refl refl steps over
    advances (of.Write p) (of.Write q) refusal at (inl steps) over =
        held_write what asks p (its_write p at) (was p at)
        (λ node when h stands. ((subst (λ o. plan_down old.core.states o ≡ Some node) (sym at) h, first_is old.core.states _ node h), stands))
        (λ region none h. subst (λ o. PlanServerCause o old.core region) (sym at)
        (no_leader s old.core.states p region (core.plans.under_way number (of.Write p) at).follower.here h.0 h.1))
        (λ count h. h) q refusal steps over
    advances (of.Read p) (of.Write q) refusal at (inl steps) over = absurd steps
    advances (of.Write p) (of.Read q) refusal at (inl steps) over = absurd steps
    advances (of.Write p) (of.Write q) refusal at (inr without) over = gives_up p at q refusal without.gives.0 without.gives.1 over
    advances (of.Read p) (of.Read q) refusal at (inr without) over = read_gives_up p q refusal without.gives over
    advances (of.Read p) (of.Write q) refusal at (inr without) over = absurd without.gives
    advances (of.Write p) (of.Read q) refusal at (inr without) over = absurd without.gives

    -- a line that advances a plan
    pub advance_line : (refusal : Refusal) → StepsAt tells word.Advance number old (Refused refusal) new → RefusesHeld tells old request refusal new
    advance_line refusal steps =
        advances steps.before steps.after refusal steps.stands steps.steps (leaves_over word.Advance _ (next_stage steps.after) refusal _ _ steps.leaves)

  -- of a call that is held from now on
  module _ (number : ℕ) (made : CheckedCall) (asks : Asks old request (asked.Plan (plan.Hold number made))) where
    abbrev held : Checked
    held = asked.Plan (plan.Hold number made)

    begins : (session : Session) (follower : NodeName) (call_is : CheckedCall) (after : HeldPlan) (refusal : Refusal) → call_is ≡ made
        → session_at old.core.sessions (call_session call_is) ≡ Some session → is_up old.core.states follower ≡ true
        → Advances (rules_of tells s) (begun_plan s session follower call_is) (world_of old) after (world_of new) → IsOver after (Refused refusal)
        → RefusesHeld tells old request refusal new
    begins session follower (call.Read read) (of.Read q) refusal same found up (inl steps) over =
        held_read held asks _ (λ node when h. (let first = h.0 in let no : None ≡ Some node = rw up at first in absurd (cc)))
        q (world_of old) refusal refl refl steps over
    begins session follower (call.Write write) (of.Write q) refusal same found up (inl steps) over =
        let p = begun_write write.write (Client write.session write.seq) session.region session.tier follower in
        held_write held asks p (ap write_of_call (sym same)) tt
        (λ node when h stands. (let no : None ≡ Some node = rw up at h in absurd (cc)))
        (λ region none h. subst (λ c. CallServerCause c old.core region) same (inr (record {
          session = session;
          found = found;
          none = no_leader s old.core.states p region (subst (IsPlacedCall s) (sym same) (asked_placed old request held asks)).configured h.0 h.1;
        })))
        (λ count h. h) q refusal steps over
    begins session follower (call.Read read) (of.Write q) refusal same found up (inl steps) over = absurd steps
    begins session follower (call.Write write) (of.Read q) refusal same found up (inl steps) over = absurd steps
    begins session follower (call.Read read) (of.Read q) refusal same found up (inr without) over = read_gives_up _ q refusal without.gives over
    begins session follower (call.Read read) (of.Write q) refusal same found up (inr without) over = absurd without.gives
    begins session follower (call.Write write) after refusal same found up (inr without) over = (let last = without.last in absurd (cc))

    hold_goes : (refusal : Refusal) → HoldGoes tells number made old (Refused refusal) new → RefusesHeld tells old request refusal new
    hold_goes refusal goes =
        let b = goes.begun in
        let own : plan_at goes.added number ≡ Some goes.plan = goes.adds.sets number ∙ rw (eq-eqb number number refl) refl in
        let there : Some goes.steps.before ≡ Some goes.plan = sym goes.steps.stands ∙ own in
        let same : goes.steps.before ≡ goes.plan = cc in
        begins b.session b.follower made goes.steps.after refusal refl b.found
        (chosen_up old.core.states b.session.region b.session.tier (call_shard made) b.follower b.chosen)
        (subst (λ before. Advances (rules_of tells s) before (world_of old) goes.steps.after (world_of new)) (same ∙ b.plan_is) goes.steps.steps)
        (leaves_over word.Hold _ (next_stage goes.steps.after) refusal _ _ goes.steps.leaves)

    -- a line that holds a call
    pub hold_line : (refusal : Refusal) → HoldGoes tells number made old (Refused refusal) new ⊎ RefusesCall made old (Refused refusal) new
        → RefusesHeld tells old request refusal new
    hold_line refusal (inl goes) = hold_goes refusal goes
    hold_line refusal (inr refuses) = refuses_call held made refusal asks (λ region h. (held, asks, h)) refuses

  -- a line of a plan
  pub plan_line : (made : CheckedPlan) (refusal : Refusal) → Asks old request (asked.Plan made) → AnswersPlan tells made old (Refused refusal) new
      → RefusesHeld tells old request refusal new
  plan_line (plan.Hold number made) refusal asks answers = hold_line number made asks refusal answers
  plan_line (plan.Advance number) refusal asks answers = advance_line number asks refusal answers
