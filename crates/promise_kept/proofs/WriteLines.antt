-- The line of a write that isn't held keeps the promise, and so does that of each call.
use Rattle.std.proofs.Common.{◌≡◌, ℕ, true, List, Option, Some, None, refl, ap, subst, inl, inr}
use Rattle.core_model.specs.Pens.{pens_of}
use Rattle.core_model.specs.Stores.{HaveMasterRegions, stores_in}
use Rattle.core_plans.proofs.WholeRuns.{OfWrite}
use Rattle.core_plans.specs.Held.{IsOver, IsUnderWay, learnt_with, next_stage, plan_at}
use Rattle.core_plans.specs.LedBy.{rules_of}
use Rattle.core_plans.specs.WholeCalls.{CarriesOut}
use Rattle.core_plans.specs.declared.held.HeldPlan.{HeldPlan}
use Rattle.core_plans.specs.declared.held.HeldPlan.TheVariants as of
use Rattle.plain_promise.specs.Promise.{Begun, Logs, Plain, SeenVersion, begun_now}
use Rattle.promise_kept.proofs.AtOnce.{WritesThrough, few_with, has_all_learnt, here_few, write_begins, writes_at_once}
use Rattle.promise_kept.proofs.Commits.{write_of}
use Rattle.promise_kept.proofs.Going.{grows_same}
use Rattle.promise_kept.proofs.Learning.{learns_both, learnt_after, learnt_grows, others_few}
use Rattle.promise_kept.proofs.Resting.{held_rests, kept_then, seen_then}
use Rattle.promise_kept.proofs.Saying.{plain_at, write_says}
use Rattle.promise_kept.proofs.Seeing.{saw_after, write_floors}
use Rattle.promise_kept.proofs.WriteEnds.{acknowledged, write_reply_is}
use Rattle.promise_kept.proofs.WriteStages.{ran_alone}
use Rattle.promise_kept.specs.Lines.{IsLine, StepsPlainly}
use Rattle.promise_kept.specs.Seen.{IsPlainOf}
use Rattle.replies.specs.declared.reply.Reply.{Reply}
use Rattle.request_check.specs.declared.checked.Checked.TheVariants as asks
use Rattle.request_check.specs.declared.checked.CheckedCall.{CheckedCall}
use Rattle.request_check.specs.declared.checked.CheckedCall.TheVariants as call
use Rattle.request_check.specs.declared.checked.CheckedWrite.{CheckedWrite}
use Rattle.tao_base.specs.declared.entry.Entry.{Entry}
use Rattle.tao_base.specs.declared.entry.Origin.TheVariants.{Client}
use Rattle.tao_core.proofs.HeldBegun.{is_under_way}
use Rattle.tao_core.specs.Calls.{world_of}
use Rattle.tao_core.specs.Core.{CoreState, Moment, author}
use Rattle.tao_core.specs.HeldCalls.{AnswersCall, CallGoes, LearnsOf}
use Rattle.tao_schema.specs.Schema.{types_of}
use Rattle.topology.specs.Config.{Settings}
use Rattle.write_model.specs.Merges.{Stores}
use Rattle.write_plan.specs.Plans.{Writing, begun_write}
use Rattle.promise_kept.proofs.CallLines.{call_keeps, refused_call}
use Rattle.promise_kept.proofs.ReadLines.{read_goes}

module _ (old new : Moment) (learnt : ℕ → List Entry) (saw : ℕ → List SeenVersion) (held : ℕ → Option Begun) (settled : Option Logs)
    (was : IsPlainOf old (plain_at old.core.settings old.keepers.told learnt saw held settled)) (write : CheckedWrite) (reply : Reply)
    (line : IsLine (asks.Call (call.Write write)) old reply new) where
  abbrev s : Settings
  s = old.core.settings

  abbrev Before : Plain
  Before = plain_at old.core.settings old.keepers.told learnt saw held settled

  abbrev Began : Begun
  Began = begun_now Before (call.Write write)

  abbrev Was : Stores
  Was = stores_in old.core.settings old.keepers.told

  write_ends : (after : HeldPlan) → new.core.plans ≡ old.core.plans → OfWrite (WritesThrough s Began write Was.logs) after (world_of new)
      → IsOver after reply → next_stage after ≡ None → LearnsOf (pens_of new.core.fleet.stores) after reply old.core.sessions new.core.sessions
      → StepsPlainly (Some (asks.Call (call.Write write))) old Before reply new
  write_ends (of.Read q) plans through over none learns = absurd through
  write_ends (of.Write q) plans through over none learns =
      let so = through.so in
      let number = author q.origin in
      let told = learnt_with reply (of.Write q) in
      let regions = subst (λ (x : Settings). HaveMasterRegions x) line.on.after.settings line.on.after.keepers.is_consistent.masters in
      let few = few_with reply q (record {
        here = here_few s Began write Was.logs q new.keepers so (kept_then old new line.on);
        other = others_few s new.keepers.told new.core.fleet q regions through.are.stores through.under;
      }) in
      let learnt_now = learnt_after number told learnt in
      let saw_now = saw_after Began reply saw in
      call_keeps old new learnt saw held settled was (call.Write write) reply line learnt_now (learnt_grows number told learnt)
      (write_says s old.keepers.told new.keepers.told Began write learnt_now saw_now held settled q reply
      (λ c committed_is unrefused reply_is. acknowledged s Began write Was.logs q new.keepers so none c committed_is unrefused learnt_now saw_now held settled
      (has_all_learnt s Began write Was.logs q new.keepers so reply learnt c reply_is))
      (write_reply_is s Began write Was.logs q new.keepers so reply over))
      (ran_alone (types_of s.schema) Was.logs (write_of write) (stores_in s new.keepers.told).logs q.committed q.job so.ran)
      (seen_then old new line.on Before learnt_now saw_now held was
      (write_floors learnt_now saw new.core.sessions
      (learns_both number told old.core.sessions new.core.sessions learnt saw few learns was.learnt) Began write reply)
      (λ n plan at. held_rests old new line.on held was.held n plan (subst (λ ps. plan_at ps n ≡ Some plan) plans at)))

  write_goes : CallGoes true (call.Write write) old reply new → StepsPlainly (Some (asks.Call (call.Write write))) old Before reply new
  write_goes goes =
      let session = goes.begun.session in
      let p : Writing = begun_write write.write (Client write.session write.seq) session.region session.tier goes.begun.follower in
      let carries = subst (λ plan. CarriesOut (rules_of true s) plan (world_of old) goes.does.after (world_of new))
      goes.begun.plan_is goes.does.carries in
      let under = subst (IsUnderWay true s old.keepers.told old.core.fleet) goes.begun.plan_is
      (is_under_way true old.keepers old.core line.on.before.is_consistent (call.Write write) goes.plan goes.begun line.can) in
      let begins : WritesThrough s Began write Was.logs p (world_of old) = record {
        so = write_begins s old.keepers Began write p refl refl refl refl refl refl;
        under = under;
        are = line.on.before.is_consistent.consistent;
        grew = grows_same Was.logs Was.logs refl;
      } in
      let through = writes_at_once s Began write Was.logs p (world_of old) goes.does.after (world_of new) begins carries in
      write_ends goes.does.after (ap (λ (c : CoreState). c.plans) goes.does.rest) through goes.does.over
      goes.does.carries.over goes.does.learns

-- ---- whatever the call

pub call_line : (old new : Moment) (learnt : ℕ → List Entry) (saw : ℕ → List SeenVersion) (held : ℕ → Option Begun) (settled : Option Logs) (asked : CheckedCall) (reply : Reply)
    → IsPlainOf old (plain_at old.core.settings old.keepers.told learnt saw held settled) → IsLine (asks.Call asked) old reply new
    → StepsPlainly (Some (asks.Call asked)) old (plain_at old.core.settings old.keepers.told learnt saw held settled) reply new
call_line old new learnt saw held settled asked reply was line = by asked line line.answers
  where
    by : (one : CheckedCall) (of_line : IsLine (asks.Call one) old reply new) → AnswersCall true one old reply new
        → StepsPlainly (Some (asks.Call one)) old (plain_at old.core.settings old.keepers.told learnt saw held settled) reply new
    by (call.Read read) of_line (inl goes) = read_goes old new learnt saw held settled was read reply of_line goes
    by (call.Write write) of_line (inl goes) = write_goes old new learnt saw held settled was write reply of_line goes
    by (call.Read read) of_line (inr refuses) = refused_call old new learnt saw held settled was (call.Read read) reply of_line refuses
    by (call.Write write) of_line (inr refuses) = refused_call old new learnt saw held settled was (call.Write write) reply of_line refuses
