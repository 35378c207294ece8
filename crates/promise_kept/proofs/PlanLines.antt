-- The lines that hold a call and advance it keep the promise.
use Rattle.std.proofs.Common.{◌≡◌, ◌∙◌, ◌++◌, [], ℕ, true, List, Option, Some, None, append-nil, refl, sym, ap, subst, inl}
use Rattle.std.proofs.Common.{inr, if◌then◌else◌}
use Rattle.std.proofs.lemmas.Bool.{cases_eq, eq-eqb, ne_eqb}
use Rattle.std.specs.Option.{option_map, option_map_or}
use Rattle.std.specs.Prelude.{◌==◌}
use Rattle.core_model.proofs.Places.{one_some}
use Rattle.core_model.specs.Stores.{stores_in}
use Rattle.core_plans.specs.Held.{IsUnderWay, plan_at}
use Rattle.core_plans.specs.HeldReads.{at_bound}
use Rattle.core_plans.specs.declared.held.HeldPlan.{HeldPlan}
use Rattle.core_sessions.specs.Sessions.{Session}
use Rattle.plain_promise.specs.Promise.{Begun, CallsAlone, IsWellKept, Logs, Plain, SaysOfCall, SeenVersion, begun_now, carried_out}
use Rattle.plain_promise.specs.Promise.{floor_at_start, held_after, seen_with, went_on}
use Rattle.promise_kept.proofs.AtOnce.{read_begins, write_begins}
use Rattle.promise_kept.proofs.CallLines.{alone_same, not_begun, unbegun_says}
use Rattle.promise_kept.proofs.Going.{grows_same, kept_now, stores_are}
use Rattle.promise_kept.proofs.HeldLines.{StepKept, step_kept}
use Rattle.promise_kept.proofs.Learning.{AreAllFloors}
use Rattle.promise_kept.proofs.Resting.{grows_then, held_rests, seen_then}
use Rattle.promise_kept.proofs.Saying.{not_settled, plain_at}
use Rattle.promise_kept.proofs.Seeing.{saw_after, uncarried_floors}
use Rattle.promise_kept.specs.Lines.{GoesOnUsable, IsLine, StepsPlainly}
use Rattle.promise_kept.specs.Seen.{AreBegun, IsPlainOf, IsPlanOf, IsSettledSince, IsUnderWayFor, floors_of}
use Rattle.read_plan.specs.Readings.{Reading, new_reading, read_by}
use Rattle.replies.specs.declared.reply.Reply.{Reply}
use Rattle.request_check.specs.declared.checked.Checked.TheVariants as asks
use Rattle.request_check.specs.declared.checked.CheckedCall.{CheckedCall}
use Rattle.request_check.specs.declared.checked.CheckedCall.TheVariants as call
use Rattle.request_check.specs.declared.plans.CheckedPlan.{CheckedPlan}
use Rattle.request_check.specs.declared.plans.CheckedPlan.TheVariants.{Advance, Hold}
use Rattle.session_pass.specs.Floors.{floor_at}
use Rattle.tao_base.specs.Queries.{query_key}
use Rattle.tao_base.specs.declared.entry.Entry.{Entry}
use Rattle.tao_base.specs.declared.entry.Origin.TheVariants.{Client}
use Rattle.tao_core.proofs.HeldBegun.{begun_core, is_under_way}
use Rattle.tao_core.proofs.HeldKeeping.{set_here}
use Rattle.tao_core.specs.Asked.{CallCanBeDone}
use Rattle.tao_core.specs.Core.{Moment}
use Rattle.tao_core.specs.HeldCalls.{HoldGoes, IsBegun, RefusesCall}
use Rattle.tao_schema.specs.Schema.{types_of}
use Rattle.topology.specs.Config.{Settings}
use Rattle.words.specs.declared.PlanWord.TheVariants as word
use Rattle.write_model.specs.Merges.{Stores}
use Rattle.write_plan.specs.Plans.{Writing, begun_write}

-- ---- advance

-- the call of the number goes on, and each other stays
module _ (number : ℕ) (was now : Logs) (held : ℕ → Option Begun) where
  abbrev Advanced : ℕ → Option Begun
  Advanced n = if n == number then option_map (went_on was now) (held n) else held n

  advance_here : (began : Begun) → held number ≡ Some began → Advanced number ≡ Some (went_on was now began)
  advance_here began is =
      ap (λ b. if b then option_map (went_on was now) (held number) else held number) (eq-eqb number number refl) ∙ ap (option_map (went_on was now)) is

  advance_others : (n : ℕ) → (n ≡ number → ⊥) → Advanced n ≡ held n
  advance_others n apart = ap (λ b. if b then option_map (went_on was now) (held n) else held n) (ne_eqb n number apart)

advance_line : (old new : Moment) (learnt : ℕ → List Entry) (saw : ℕ → List SeenVersion) (held : ℕ → Option Begun) (settled : Option Logs) (number : ℕ) (reply : Reply)
    → IsPlainOf old (plain_at old.core.settings old.keepers.told learnt saw held settled) → IsLine (asks.Plan (Advance number)) old reply new
    → StepsPlainly (Some (asks.Plan (Advance number))) old (plain_at old.core.settings old.keepers.told learnt saw held settled) reply new
advance_line old new learnt saw held settled number reply was line =
    let s = old.core.settings in
    let steps = line.answers in
    let begun = was.held number steps.before steps.stands in
    let before : Plain = plain_at s old.keepers.told learnt saw held settled in
    let logs : Logs = (stores_in s new.keepers.told).logs in
    let held_now : ℕ → Option Begun = held_after before (asks.Plan (Advance number)) logs in
    let others = advance_others number before.stores.logs logs held in
    let kept : StepKept old new learnt saw held settled was line.on word.Advance number reply held_now others begun.0 =
    step_kept old new learnt saw held settled was line.on word.Advance number reply held_now others steps begun.0 begun.2
    (advance_here number before.stores.logs logs held begun.0 begun.1) in
    let after : Plain = plain_at s new.keepers.told kept.learnt_now (saw_after begun.0 reply saw) held_now settled in
    record {
      after = after;
      says = record {
        says = record { began = begun.0; holds = begun.1; says = kept.says; changes = kept.changes };
        changes = tt;
        grows = grows_then old new line.on;
        well_kept = subst (IsWellKept (types_of s.schema)) (stores_are old new line.on) (kept_now old new line.on);
        learnt = kept.more;
        seen = λ n. ap (λ o. seen_with o (carried_out reply) n (saw n)) (sym begun.1);
        held = λ plan. refl;
        settled = sym (not_settled (types_of s.schema) begun.0 before after before.stores.logs reply logs kept.says);
      };
      seen = kept.seen;
    }

-- ---- hold

module _ (old new : Moment) (learnt : ℕ → List Entry) (saw : ℕ → List SeenVersion) (held : ℕ → Option Begun) (settled : Option Logs)
    (was : IsPlainOf old (plain_at old.core.settings old.keepers.told learnt saw held settled)) (number : ℕ) (asked : CheckedCall) (reply : Reply)
    (line : IsLine (asks.Plan (Hold number asked)) old reply new) where
  abbrev s : Settings
  s = old.core.settings

  abbrev Before : Plain
  Before = plain_at old.core.settings old.keepers.told learnt saw held settled

  abbrev Began : Begun
  Began = begun_now Before asked

  abbrev Was : Stores
  Was = stores_in old.core.settings old.keepers.told

  abbrev Now : Stores
  Now = stores_in old.core.settings new.keepers.told

  -- with the call that begins, and once it went on by the line
  abbrev held_as : Begun → ℕ → Option Begun
  held_as began n = if n == number then Some began else held n

  abbrev Then : Begun
  Then = went_on (stores_in old.core.settings old.keepers.told).logs (stores_in old.core.settings new.keepers.told).logs Began

  abbrev After : (ℕ → List Entry) → Plain
  After learnt_now = plain_at old.core.settings new.keepers.told learnt_now (saw_after (begun_now Before asked) reply saw) (held_as Then) settled

  abbrev Steps : Type 0
  Steps = StepsPlainly (Some (asks.Plan (Hold number asked))) old Before reply new

  hold_keeps : (learnt_now : ℕ → List Entry) → ((n : ℕ) → (es : List Entry) × (learnt_now n ≡ learnt n ++ es))
      → SaysOfCall (types_of s.schema) Began Was.logs reply (After learnt_now) → CallsAlone (types_of s.schema) asked Was Now.logs
      → IsPlainOf new (After learnt_now) → Steps
  hold_keeps learnt_now more says changes seen = record {
    after = After learnt_now;
    says = record {
      says = says;
      changes = changes;
      grows = grows_then old new line.on;
      well_kept = subst (IsWellKept (types_of s.schema)) (stores_are old new line.on) (kept_now old new line.on);
      learnt = more;
      seen = λ n. refl;
      held = λ plan. refl;
      settled = sym (not_settled (types_of s.schema) Began Before (After learnt_now) Was.logs reply Now.logs says);
    };
    seen = seen;
  }

  -- what is remembered of the number, and of each other
  held_here : (began : Begun) (n : ℕ) → n ≡ number → held_as began n ≡ Some began
  held_here began n is = ap (λ b. if b then Some began else held n) (eq-eqb n number is)

  held_there : (began : Begun) (n : ℕ) → (n ≡ number → ⊥) → held_as began n ≡ held n
  held_there began n apart = ap (λ b. if b then Some began else held n) (ne_eqb n number apart)

  -- ---- no plan was begun

  refused_hold : RefusesCall asked old reply new → Steps
  refused_hold refuses =
      let same = refuses.same in
      let logs : Now.logs ≡ Was.logs = ap (λ (m : Moment). (stores_in s m.keepers.told).logs) same in
      let refused = not_begun old.core.states old.core.sessions asked reply refuses.refused in
      let were = subst (λ (m : Moment). AreAllFloors learnt saw m.core.sessions) (sym same) was.learnt in
      hold_keeps learnt (λ n. ([], sym (append-nil (learnt n))))
      (unbegun_says Began Was.logs (After learnt) s reply refused logs)
      (alone_same s old new asked logs)
      (seen_then old new line.on Before learnt (saw_after Began reply saw) (held_as Then) was
      (uncarried_floors learnt saw new.core.sessions were Began reply (ap carried_out refused.reply_is))
      (λ n plan at.
      let there = subst (λ (m : Moment). plan_at m.core.plans n ≡ Some plan) same at in
      elim (cases_eq n number) [
        | inl is ↦
            let gone : None ≡ Some plan = sym line.can.0 ∙ ap (plan_at old.core.plans) (sym is) ∙ there in
            absurd (cc)
        | inr apart ↦
            let rests = held_rests old new line.on held was.held n plan there in
            (rests.0, held_there Then n apart ∙ rests.1, rests.2)
      ]))

  -- ---- a plan was begun

  module _ (goes : HoldGoes true number asked old reply new) where
    abbrev Added : Moment
    Added = record old { core = record old.core { plans = goes.added } }

    abbrev plan : HeldPlan
    plan = goes.plan

    can : CallCanBeDone old.core.settings old.core.sessions asked
    can = line.can.1

    under : IsUnderWay true s old.keepers.told old.core.fleet plan
    under = is_under_way true old.keepers old.core line.on.before.is_consistent asked plan goes.begun can

    on_added : GoesOnUsable Added new
    on_added = record {
      before = begun_core true old.keepers old.core line.on.before.is_consistent asked plan goes.begun can number goes.added line.on.before line.can.0
          goes.adds;
      after = record {
        settings = line.on.after.settings;
        keepers = line.on.after.keepers;
        goes = line.on.after.goes;
        comes = line.on.after.comes;
        grows = line.on.after.grows;
        later = line.on.after.later;
      };
    }

    since_added : (last : Option Logs) → IsSettledSince old last → IsSettledSince Added last
    since_added last is = record { grows = is.grows; rests = is.rests }

    plan_added : (one : HeldPlan) (first : Begun) → IsPlanOf old one first → IsPlanOf Added one first
    plan_added one first is = record { under_way = is.under_way; grows = is.grows; settled = since_added first.settled is.settled }

    -- the plan is that of the call
    begun_for : (one : CheckedCall) → IsBegun s old.core.states old.core.sessions one plan
        → IsUnderWayFor s old.keepers (begun_now Before one) one plan
    begun_for (call.Read read) begun =
        let key = query_key read.query in
        let session = begun.session in
        let p : Reading = read_by read.session
        (at_bound s (new_reading read.query session.region session.tier (floor_at session.floors key) read.critical begun.follower)) in
        let own = subst (IsUnderWay true s old.keepers.told old.core.fleet) begun.plan_is under in
        let floors : floors_of old.core.sessions read.session ≡ session.floors =
        ap (λ o. option_map_or (λ (x : Session). x.floors) o []) begun.found in
        let least = subst (λ fs. floor_at fs key ≡ floor_at_start (begun_now Before (call.Read read)) key) floors ((was.learnt read.session).at key) in
        subst (IsUnderWayFor s old.keepers (begun_now Before (call.Read read)) (call.Read read)) (sym begun.plan_is)
        (read_begins s old.keepers (begun_now Before (call.Read read)) read p own.follower.here refl refl refl least refl refl)
    begun_for (call.Write write) begun =
        let session = begun.session in
        let p : Writing = begun_write write.write (Client write.session write.seq) session.region session.tier begun.follower in
        subst (IsUnderWayFor s old.keepers (begun_now Before (call.Write write)) (call.Write write)) (sym begun.plan_is)
        (write_begins s old.keepers (begun_now Before (call.Write write)) write p refl refl refl refl refl refl).for_call

    is_plan : IsPlanOf Added plan Began
    is_plan = record {
      under_way = begun_for asked goes.begun;
      grows = grows_same Was.logs Was.logs refl;
      settled = since_added settled was.settled;
    }

    begun_added : AreBegun Added (held_as Began)
    begun_added n one at =
        let found : (if n == number then Some plan else plan_at old.core.plans n) ≡ Some one = sym (goes.adds.sets n) ∙ at in
        elim (cases_eq n number) [
          | inl is ↦
              let own : Some plan ≡ Some one =
              subst (λ b. (if b then Some plan else plan_at old.core.plans n) ≡ Some one) (eq-eqb n number is) found in
              (Began, held_here Began n is, subst (λ x. IsPlanOf Added x Began) (one_some plan one own) is_plan)
          | inr apart ↦
              let other : plan_at old.core.plans n ≡ Some one =
              subst (λ b. (if b then Some plan else plan_at old.core.plans n) ≡ Some one) (ne_eqb n number apart) found in
              let before = was.held n one other in
              (before.0, held_there Began n apart ∙ before.1, plan_added one before.0 before.2)
        ]

    was_added : IsPlainOf Added (plain_at old.core.settings old.keepers.told learnt saw (held_as Began) settled)
    was_added = record {
      stores = refl;
      learnt = was.learnt;
      held = begun_added;
      settled = since_added settled was.settled;
    }

    own_before : plan ≡ goes.steps.before
    own_before = one_some plan goes.steps.before (sym (set_here number (Some plan) old.core.plans goes.added goes.adds.sets) ∙ goes.steps.stands)

    others : (n : ℕ) → (n ≡ number → ⊥) → held_as Then n ≡ held_as Began n
    others n apart = held_there Then n apart ∙ sym (held_there Began n apart)

    kept : StepKept Added new learnt saw (held_as Began) settled was_added on_added word.Hold number reply (held_as Then) others Began
    kept = step_kept Added new learnt saw (held_as Began) settled was_added on_added word.Hold number reply (held_as Then) others goes.steps Began
        (subst (λ x. IsPlanOf Added x Began) own_before is_plan) (held_here Then number refl)

    goes_hold : Steps
    goes_hold = hold_keeps kept.learnt_now kept.more kept.says kept.changes kept.seen

  hold_line : Steps
  hold_line = elim line.answers [ inl goes ↦ goes_hold goes | inr refuses ↦ refused_hold refuses ]

-- ---- whatever is asked of a plan

pub plan_line : (old new : Moment) (learnt : ℕ → List Entry) (saw : ℕ → List SeenVersion) (held : ℕ → Option Begun) (settled : Option Logs) (asked : CheckedPlan) (reply : Reply)
    → IsPlainOf old (plain_at old.core.settings old.keepers.told learnt saw held settled) → IsLine (asks.Plan asked) old reply new
    → StepsPlainly (Some (asks.Plan asked)) old (plain_at old.core.settings old.keepers.told learnt saw held settled) reply new
plan_line old new learnt saw held settled (Hold number asked) reply was line = hold_line old new learnt saw held settled was number asked reply line
plan_line old new learnt saw held settled (Advance number) reply was line = advance_line old new learnt saw held settled number reply was line
