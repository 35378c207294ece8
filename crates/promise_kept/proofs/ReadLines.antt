-- The line of a read that isn't held keeps the promise.
use Rattle.std.proofs.Common.{◌≡◌, ◌<◌, ◌∙◌, [], ℕ, true, List, Option, Some, None, refl, sym, ap, subst}
use Rattle.std.specs.Option.{option_map_or}
use Rattle.core_model.specs.Pens.{pens_of}
use Rattle.core_model.specs.Stores.{stores_in}
use Rattle.core_plans.proofs.WholeRuns.{OfRead}
use Rattle.core_plans.specs.Held.{IsOver, IsUnderWay}
use Rattle.core_plans.specs.HeldReads.{at_bound}
use Rattle.core_plans.specs.LedBy.{rules_of}
use Rattle.core_plans.specs.WholeCalls.{CarriesOut}
use Rattle.core_plans.specs.declared.held.HeldPlan.{HeldPlan}
use Rattle.core_plans.specs.declared.held.HeldPlan.TheVariants as of
use Rattle.core_sessions.specs.Sessions.{Session}
use Rattle.graph_model.specs.Log.{version}
use Rattle.plain_promise.specs.Promise.{AreSameLogs, Begun, Logs, Plain, SeenVersion, begun_now, floor_at_start, log_read}
use Rattle.promise_kept.proofs.AtOnce.{ReadsSoFar, read_begins, reads_at_once}
use Rattle.promise_kept.proofs.Going.{log_is, same_logs}
use Rattle.promise_kept.proofs.ReadLemmas.{answer_legal, answer_whole, read_reply_is}
use Rattle.promise_kept.proofs.Saying.{plain_at, read_says}
use Rattle.promise_kept.proofs.Seeing.{read_floors, saw_after}
use Rattle.promise_kept.specs.Lines.{IsLine, StepsPlainly}
use Rattle.promise_kept.specs.Seen.{IsPlainOf, floors_of}
use Rattle.read_plan.specs.Ends.{EndsWith}
use Rattle.read_plan.specs.Readings.{Reading, new_reading, read_by}
use Rattle.replies.specs.declared.calls.CallReply.TheVariants as called
use Rattle.replies.specs.declared.calls.ReadReply.{ReadReply}
use Rattle.replies.specs.declared.reply.Reply.{Reply}
use Rattle.replies.specs.declared.reply.Reply.TheVariants.{Called}
use Rattle.request_check.specs.declared.checked.Checked.TheVariants as asks
use Rattle.request_check.specs.declared.checked.CheckedCall.TheVariants as call
use Rattle.request_check.specs.declared.checked.CheckedRead.{CheckedRead}
use Rattle.session_pass.specs.Floors.{floor_at}
use Rattle.tao_base.specs.Queries.{query_key, query_shard}
use Rattle.tao_base.specs.declared.entry.Entry.{Entry}
use Rattle.tao_core.proofs.HeldBegun.{is_under_way}
use Rattle.tao_core.proofs.SettledLaws.{settled_until_a_commit}
use Rattle.tao_core.specs.Calls.{world_of}
use Rattle.tao_core.specs.Core.{CoreState, Moment}
use Rattle.tao_core.specs.HeldCalls.{AnswersCall, CallGoes, LearnsOf}
use Rattle.tao_schema.specs.Schema.{types_of}
use Rattle.topology.specs.Config.{Settings}
use Rattle.write_model.specs.Merges.{Stores, log_of}
use Rattle.promise_kept.proofs.CallLines.{rested}

module _ (old new : Moment) (learnt : ℕ → List Entry) (saw : ℕ → List SeenVersion) (held : ℕ → Option Begun) (settled : Option Logs)
    (was : IsPlainOf old (plain_at old.core.settings old.keepers.told learnt saw held settled)) (read : CheckedRead) (reply : Reply)
    (line : IsLine (asks.Call (call.Read read)) old reply new) where
  abbrev s : Settings
  s = old.core.settings

  abbrev Before : Plain
  Before = plain_at old.core.settings old.keepers.told learnt saw held settled

  abbrev After : Plain
  After = plain_at old.core.settings new.keepers.told learnt (saw_after (begun_now Before (call.Read read)) reply saw) held settled

  abbrev Began : Begun
  Began = begun_now Before (call.Read read)

  abbrev Was : Stores
  Was = stores_in old.core.settings old.keepers.told

  abbrev Now : Stores
  Now = stores_in old.core.settings new.keepers.told

  -- the last version, where nothing was written since a settle
  last_read : (answer : ReadReply) → reply ≡ Called (called.Read answer) → query_shard read.query < s.shards → Now.logs ≡ Was.logs → (logs : Logs)
      → settled ≡ Some logs → AreSameLogs logs Now.logs → answer.version ≡ version (log_read Now.logs read) (query_key read.query)
  last_read answer is here logs_same logs since same =
      let answers = subst (λ r. AnswersCall true (call.Read read) old r new) is line.answers in
      let before : AreSameLogs logs Was.logs = λ shard. ap (λ l. log_of l shard) (sym logs_same) ∙ same shard in
      let shard = query_shard read.query in
      settled_until_a_commit.reads old new read answer line.on.before.is_consistent (was.settled.rests logs since before) answers
      ∙ ap (λ l. version l (query_key read.query)) (sym (log_is s old.keepers.told shard here))
      ∙ ap (λ l. version (log_of l shard) (query_key read.query)) (sym logs_same)

  read_ends : (after : HeldPlan) → query_shard read.query < s.shards → new.core.plans ≡ old.core.plans
      → OfRead (ReadsSoFar s Began read (world_of old)) after (world_of new) → IsOver after reply
      → LearnsOf (pens_of new.core.fleet.stores) after reply old.core.sessions new.core.sessions
      → StepsPlainly (Some (asks.Call (call.Read read))) old Before reply new
  read_ends (of.Write q) here plans so over learns = absurd so
  read_ends (of.Read q) here plans so over learns =
      let replied = read_reply_is q reply so.so over in
      let logs = same_logs s old.keepers new.keepers so.tables in
      let here_then = subst (λ query. query_shard query < s.shards) (sym so.for_call.query_is) here in
      rested old new learnt saw held settled was (call.Read read) reply line logs
      (read_floors (pens_of new.core.fleet.stores) Began read q reply old.core.sessions new.core.sessions learnt saw so.for_call.query_is so.for_call.reader_is
      replied learns was.learnt) plans
      (read_says (types_of s.schema) Began read Was.logs After reply replied logs
      (λ answer is.
      let ends = subst (EndsWith q) is over in
      let legal = (so.legal answer ends).0 in
      record {
        legal = answer_legal s new.keepers (record Began { settled = None }) read q so.for_call here_then so.so answer ends legal;
        whole = answer_whole s new.keepers (record Began { settled = None }) read q so.for_call here_then so.so answer ends;
        last = last_read answer is here logs;
      }))

  pub read_goes : CallGoes true (call.Read read) old reply new → StepsPlainly (Some (asks.Call (call.Read read))) old Before reply new
  read_goes goes =
      let session = goes.begun.session in
      let key = query_key read.query in
      let p : Reading = read_by read.session
      (at_bound s (new_reading read.query session.region session.tier (floor_at session.floors key) read.critical goes.begun.follower)) in
      let carries = subst (λ plan. CarriesOut (rules_of true s) plan (world_of old) goes.does.after (world_of new))
      goes.begun.plan_is goes.does.carries in
      let under = subst (IsUnderWay true s old.keepers.told old.core.fleet) goes.begun.plan_is
      (is_under_way true old.keepers old.core line.on.before.is_consistent (call.Read read) goes.plan goes.begun line.can) in
      let here = under.follower.here in
      let floors : floors_of old.core.sessions read.session ≡ session.floors =
      ap (λ o. option_map_or (λ (x : Session). x.floors) o []) goes.begun.found in
      let least = subst (λ fs. floor_at fs key ≡ floor_at_start Began key) floors ((was.learnt read.session).at key) in
      let begins = read_begins s old.keepers (record Began { settled = None }) read p here refl refl refl least refl refl in
      let so = reads_at_once s Began read p (world_of old) goes.does.after (world_of new) begins refl carries in
      read_ends goes.does.after here (ap (λ (c : CoreState). c.plans) goes.does.rest) so goes.does.over goes.does.learns
