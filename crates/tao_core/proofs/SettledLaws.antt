-- What a settle leaves stays until a log grows.
use Rattle.std.proofs.Common.{◌≡◌, ◌≤◌, true, length, refl, subst, sym, arith, inl, inr}
use Rattle.core_model.proofs.Settled.{settled_stays}
use Rattle.core_model.specs.Consistent.{GoesOn, IsConsistent}
use Rattle.core_model.specs.Growing.{TablesGoOn}
use Rattle.core_model.specs.States.{AreSettled, HaveSameLogs, nodes_now}
use Rattle.core_model.specs.Stores.{AreWhole}
use Rattle.core_nodes.proofs.CaughtUp.{nodes_catch_up}
use Rattle.core_nodes.proofs.GrowingLemmas.{stays_stores}
use Rattle.core_plans.proofs.WholeStages.{stages_miss_nothing}
use Rattle.core_plans.specs.Held.{GivesUp, StepsHeld}
use Rattle.core_plans.specs.LedBy.{rules_of}
use Rattle.core_plans.specs.declared.held.HeldPlan.TheVariants as of
use Rattle.core_plans.specs.declared.held.HeldPlan.{HeldPlan}
use Rattle.core_plans.proofs.ReadRefusals.{over_refused}
use Rattle.core_plans.specs.HeldReads.{HasComeTo, at_bound, read_has_no_room, version_now}
use Rattle.read_plan.specs.Readings.{Reading, new_reading, read_by}
use Rattle.request_check.specs.declared.checked.CheckedCall.TheVariants as checked_call
use Rattle.replies.specs.declared.calls.CallReply.TheVariants as called
use Rattle.replies.specs.declared.calls.ReadReply.{ReadReply}
use Rattle.replies.specs.declared.reply.Reply.TheVariants.{Called}
use Rattle.request_check.specs.declared.checked.CheckedRead.{CheckedRead}
use Rattle.tao_core.specs.Calls.{world_of}
use Rattle.tao_core.specs.HeldCalls.{AnswersCall, DoesAtOnce, call_floor, Advances}
use Rattle.tao_core.proofs.SettledReads.{read_last}
use Rattle.tao_core.specs.Core.{ComeUp, IsConsistentCore, IsCoreOf, Moment}
use Rattle.tao_core.specs.Laws.{IsSettled, MissesNoMore, SettledUntilACommit, last_version}

-- ---- reads

reads_last : (old new : Moment) (call : CheckedRead) (reply : ReadReply) → IsConsistentCore true old.keepers.told old.core → IsSettled old
    → AnswersCall true (checked_call.Read call) old (Called (called.Read reply)) new → reply.version ≡ last_version old call.query
reads_last old new call reply are settled (inr refuses) = absurd refuses.refused
reads_last old new call reply are settled (inl goes) =
    let core = old.core in
    let session = goes.begun.session in
    let p : Reading = read_by call.session (at_bound core.settings
    (new_reading call.query session.region session.tier (call_floor session (checked_call.Read call)) call.critical goes.begun.follower)) in
    let does = subst (λ plan. DoesAtOnce true plan old (Called (called.Read reply)) new) goes.begun.plan_is goes.does in
    read_last core.settings p (world_of old) are.masters does.carries.stages does.after (world_of new) reply refl are.consistent settled
    does.carries.passes does.over

-- ---- stages

-- a stage of a held read changes no table
stage_whole : (before after : HeldPlan) (old new : Moment) → IsCoreOf true old.keepers.told old.core → IsSettled old
    → StepsHeld (rules_of true old.core.settings) before (world_of old) after (world_of new) → MissesNoMore before old after new
stage_whole (of.Read p) (of.Read q) old new are settled steps =
    let core = old.core in
    let grows = stays_stores true core.settings old.keepers new.keepers steps.tables in
    (stages_miss_nothing core.settings p q (world_of old) (world_of new)).whole steps.steps are.is_consistent.consistent settled grows.on.logs
stage_whole (of.Read p) (of.Write q) old new are settled steps = tt
stage_whole (of.Write p) (of.Read q) old new are settled steps = tt
stage_whole (of.Write p) (of.Write q) old new are settled steps = tt

-- a read that was given up has no answer, which may miss anything
given_whole : (before after : HeldPlan) (old new : Moment) → GivesUp before (world_of old) after (world_of new) → MissesNoMore before old after new
given_whole (of.Read p) (of.Read q) old new gives = λ least come.
    subst (HasComeTo least (version_now old.core.settings q new.keepers)) (sym (over_refused read_has_no_room p q (world_of old) (world_of new) gives)) tt
given_whole (of.Read p) (of.Write q) old new gives = tt
given_whole (of.Write p) after old new gives = tt

advance_whole : (before after : HeldPlan) (old new : Moment) → IsCoreOf true old.keepers.told old.core → IsSettled old
    → Advances (rules_of true old.core.settings) before (world_of old) after (world_of new) → MissesNoMore before old after new
advance_whole before after old new are settled (inl steps) = stage_whole before after old new are settled steps
advance_whole before after old new are settled (inr ends) = given_whole before after old new ends.gives

-- ---- settled

-- in a configuration of one region each store is its shard's master
whole_alone : (m : Moment) → IsConsistentCore true m.keepers.told m.core → length m.core.settings.regions ≤ 1 → AreWhole m.core.settings m.keepers.told
whole_alone m are few =
    let some = are.masters 0 in
    (nodes_catch_up m.core.settings m.keepers.told).one_region are.masters (omega (arith, few, some))

-- it stays so
stays_settled : (old new : Moment) → IsConsistentCore true old.keepers.told old.core → IsConsistentCore true new.keepers.told new.core
    → new.core.settings ≡ old.core.settings → GoesOn old.core.fleet new.core.fleet → ComeUp true new.keepers.told old.core new.core
    → TablesGoOn true old.core.settings old.keepers.told new.keepers.told → HaveSameLogs old.core.settings old.keepers.told new.keepers.told
    → IsSettled old → IsSettled new
stays_settled old new was are same goes comes grows logs settled =
    let now = nodes_now new.core.fleet new.core.states in
    subst (λ s. AreSettled s new.keepers.told now) (sym same)
    ((settled_stays old.core.settings old.keepers.told new.keepers.told (nodes_now old.core.fleet old.core.states) now).stay was.masters was.consistent
    (subst (λ s. IsConsistent true s new.keepers.told new.core.fleet) same are.consistent) goes (comes refl) grows logs settled)

pub settled_until_a_commit : SettledUntilACommit
settled_until_a_commit = record {
  settles = λ logs old new settles. record { whole = (settles.settled refl).whole; ends = (settles.settled refl).ends };
  whole = whole_alone;
  begins = λ m ends whole. record {
    whole = whole;
    ends = record {
      leaders = λ place name node at up. ends.leaders place name node at;
      followers = λ place name follower at up. ends.followers place name follower at;
    };
  };
  stays = stays_settled;
  reads = reads_last;
  stages = λ old new asked number reply are settled steps. advance_whole steps.before steps.after old new are settled steps.steps;
}
