-- What stays so of a core that is seen as a plain state, where a line neither steps a plan nor teaches a session.
use Rattle.std.proofs.Common.{◌≡◌, ◌∙◌, ℕ, List, Option, Some, true, refl, sym, ap, subst}
use Rattle.std.proofs.lemmas.Option.{IfSome_then}
use Rattle.core_model.specs.Stores.{AreKeptIn, stores_in}
use Rattle.core_plans.proofs.Missing.{nothing_is_missed_later}
use Rattle.core_plans.specs.Held.{IsUnderWay, plan_at}
use Rattle.core_plans.specs.HeldReads.{HasComeTo, IsReadUnderWay}
use Rattle.core_plans.specs.declared.held.HeldPlan.{HeldPlan}
use Rattle.core_plans.specs.declared.held.HeldPlan.TheVariants as of
use Rattle.core_sessions.specs.Sessions.{Session}
use Rattle.graph_model.specs.Log.{version}
use Rattle.plain_promise.specs.Promise.{AreSameLogs, Begun, EachGrows, Plain, SeenVersion, log_read}
use Rattle.promise_kept.proofs.Staying.{answered_stays}
use Rattle.promise_kept.proofs.Going.{each_grows, grows_on, have_same, logs_grow, settled_rests, stay_same, stores_are, were_same}
use Rattle.promise_kept.specs.Lines.{GoesOnUsable}
use Rattle.promise_kept.specs.Seen.{AreBegun, FloorsAre, IsPlainOf, IsPlanOf, IsReadFor, IsSettledSince, IsUnderWayFor, IsWriteFor, floors_of}
use Rattle.promise_kept.specs.Seen.{stores_at}
use Rattle.read_plan.specs.Readings.{Reading}
use Rattle.request_check.specs.declared.checked.CheckedCall.{CheckedCall}
use Rattle.request_check.specs.declared.checked.CheckedCall.TheVariants as call
use Rattle.request_check.specs.declared.checked.CheckedRead.{CheckedRead}
use Rattle.request_check.specs.declared.checked.CheckedWrite.{CheckedWrite}
use Rattle.tao_base.specs.Queries.{query_key, query_shard}
use Rattle.tao_base.specs.declared.entry.Entry.{Entry}
use Rattle.tao_core.specs.Core.{Moment}
use Rattle.topology.specs.Config.{Settings}
use Rattle.write_model.specs.Merges.{Stores, log_of}
use Rattle.write_plan.specs.Plans.{Writing}

module _ (old new : Moment) (on : GoesOnUsable old new) where
  abbrev Set : Settings
  Set = old.core.settings

  -- ---- the stores, by the settings as they were

  pub kept_then : AreKeptIn Set new.keepers.told
  kept_then = subst (λ (s : Settings). AreKeptIn s new.keepers.told) on.after.settings (on.after.keepers.is_consistent.consistent.stores.kept refl)

  pub grows_then : EachGrows (stores_in Set old.keepers.told).logs (stores_in Set new.keepers.told).logs
  grows_then = each_grows Set old.keepers.told new.keepers.told on.after.grows.logs

  -- ---- calls that are held

  read_rests : (began : Begun) (read : CheckedRead) (p : Reading) → IsReadUnderWay true Set old.keepers.told old.core.fleet p
      → IsSettledSince old began.settled → IsReadFor Set old.keepers began read p → IsReadFor Set new.keepers began read p
  read_rests began read p under settled was = record {
    query_is = was.query_is;
    critical_is = was.critical_is;
    floor_is = was.floor_is;
    reader_is = was.reader_is;
    whole = nothing_is_missed_later.later true Set (version (log_read began.logs read) (query_key read.query)) p old.keepers new.keepers
        on.after.grows.logs was.whole;
    last = λ logs is same.
        let now : AreSameLogs logs (stores_at new).logs =
        λ shard. ap (λ (st : Stores). log_of st.logs shard) (stores_are old new on) ∙ same shard in
        let before = were_same old new on logs (settled.grows logs is) now in
        let stay = have_same old new on (stay_same old new on logs (settled.grows logs is) now) (query_shard p.query) under.follower.here in
        let v = ap (λ l. version l (query_key p.query)) stay in
        subst (λ n. HasComeTo n n p.at) (sym v) (was.last logs is before);
  }

  write_rests : (began : Begun) (write : CheckedWrite) (p : Writing) → IsWriteFor Set old.keepers began write p → IsWriteFor Set new.keepers began write p
  write_rests began write p was = record {
    write_is = was.write_is;
    origin_is = was.origin_is;
    answered = IfSome_then p.committed was.answered (answered_stays Set old.keepers.told new.keepers.told grows_then kept_then began write p.job);
    added = was.added;
    due = was.due;
  }

  call_rests : (began : Begun) (asked : CheckedCall) (plan : HeldPlan) → IsUnderWay true Set old.keepers.told old.core.fleet plan
      → IsSettledSince old began.settled → IsUnderWayFor Set old.keepers began asked plan → IsUnderWayFor Set new.keepers began asked plan
  call_rests began (call.Read read) (of.Read p) under settled was = read_rests began read p under settled was
  call_rests began (call.Write write) (of.Write p) under settled was = write_rests began write p was
  call_rests began (call.Read read) (of.Write p) under settled was = absurd was
  call_rests began (call.Write write) (of.Read p) under settled was = absurd was

  pub plan_rests : (plan : HeldPlan) (began : Begun) → IsUnderWay true Set old.keepers.told old.core.fleet plan → IsPlanOf old plan began
      → IsPlanOf new plan began
  plan_rests plan began under was = record {
    under_way = subst (λ s. IsUnderWayFor s new.keepers began began.call plan) (sym on.after.settings)
        (call_rests began began.call plan under was.settled was.under_way);
    grows = grows_on began.logs (stores_at old).logs (stores_at new).logs was.grows (logs_grow old new on);
    settled = settled_rests old new on began.settled was.settled;
  }

  -- each plan that was held and is held still
  pub held_rests : (held : ℕ → Option Begun) → AreBegun old held → (number : ℕ) (plan : HeldPlan) → plan_at old.core.plans number ≡ Some plan
      → (began : Begun) × (held number ≡ Some began) × IsPlanOf new plan began
  held_rests held were number plan at =
      let was = were number plan at in
      (was.0, was.1, plan_rests plan was.0 (on.before.plans.under_way number plan at) was.2)

  -- ---- the whole state

  -- the core is seen so, with what sessions have learnt and seen then and the calls that are held then
  pub seen_then : (plain : Plain) (learnt : ℕ → List Entry) (saw : ℕ → List SeenVersion) (held : ℕ → Option Begun) → IsPlainOf old plain
      → ((number : ℕ) → FloorsAre (learnt number) (saw number) (floors_of new.core.sessions number)) → AreBegun new held
      → IsPlainOf new (record { stores = stores_in Set new.keepers.told; learnt = learnt; seen = saw; held = held; settled = plain.settled })
  seen_then plain learnt saw held was floors begun = record {
    stores = sym (stores_are old new on);
    learnt = floors;
    held = begun;
    settled = settled_rests old new on plain.settled was.settled;
  }

  pub plain_rests : (plain : Plain) → IsPlainOf old plain → new.core.sessions ≡ old.core.sessions → new.core.plans ≡ old.core.plans
      → IsPlainOf new (record plain { stores = stores_in Set new.keepers.told })
  plain_rests plain was sessions plans =
      seen_then plain plain.learnt plain.seen plain.held was
      (λ number. subst (λ (opened : List Session). FloorsAre (plain.learnt number) (plain.seen number) (floors_of opened number)) (sym sessions)
      (was.learnt number))
      (λ number plan at. held_rests plain.held was.held number plan (subst (λ ps. plan_at ps number ≡ Some plan) plans at))
