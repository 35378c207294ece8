-- A write that does all of its stages, and is refused as out of memory, has written nothing.
use Rattle.std.proofs.Common.{◌≡◌, ◌∙◌, ℕ, Bool, Option, Some, None, Ok, Err, refl, sym, ap, subst, inl, inr}
use Rattle.std.specs.Prelude.{⊤, IfSome, Result}
use Rattle.core_model.specs.Jobs.{ShardJob}
use Rattle.core_steps.specs.OtherEnds.{EndsOver, MergesOver, SentJob, sent_job}
use Rattle.core_steps.specs.World.{World}
use Rattle.core_steps.specs.Relays.{RefusesPassing}
use Rattle.core_steps.specs.Writes.{RefusesCommit}
use Rattle.core_steps.specs.declared.routes.Route.{Route}
use Rattle.node_name.specs.declared.NodeName.{NodeName}
use Rattle.replies.specs.declared.refusals.Refusal.{Refusal}
use Rattle.replies.specs.declared.refusals.Refusal.TheVariants as refusal
use Rattle.replies.specs.declared.reply.Reply.{Reply}
use Rattle.replies.specs.declared.reply.Reply.TheVariants as replied
use Rattle.shard_tables.specs.declared.writes.Wrote.{Wrote}
use Rattle.tao_keeper.proofs.Later.{keeps_trans}
use Rattle.tao_keeper.specs.KeeperState.{KeeperState, KeepsTables}
use Rattle.write_plan.specs.Plans.{Writing, after_stage, next_of, reply_by, stage_from}
use Rattle.write_plan.specs.declared.committed.Committed.{Committed}
use Rattle.write_plan.specs.declared.progress.OtherEnd.{OtherEnd}
use Rattle.write_plan.specs.declared.progress.WayBack.{WayBack}
use Rattle.write_plan.specs.declared.results.LeftOpen.{LeftOpen}
use Rattle.write_plan.specs.declared.results.LeftOpen.TheVariants.{Refused, Scheduled}
use Rattle.write_plan.specs.declared.results.WriteResult.TheVariants as came
use Rattle.write_plan.specs.declared.stage.WriteStage.{WriteStage}
use Rattle.write_plan.specs.declared.stage.WriteStage.TheVariants.{Apply, Commit, Done, End, Inverse, Relay}
use Rattle.core_plans.specs.Held.{IsOver}
use Rattle.core_plans.specs.HeldWrites.{ComesOfWrite, CommitsBy, DoesWriteStage, RefusesOnWay, RefusesWrite, come_past, job_by, job_sender}
use Rattle.core_plans.specs.HeldWrites.{sent_by, way_by, write_is_down}
use Rattle.core_plans.specs.LedBy.{LedBy, Rules, led_by}
use Rattle.core_plans.specs.Needs.{leaders_of_write}
use Rattle.core_plans.specs.declared.leaders.Leaders.{Leaders}
use Rattle.core_plans.specs.WholeCalls.{PassesStage}
use Rattle.core_plans.specs.WholeLaws.{IsBegunWrite}
use Rattle.core_plans.specs.declared.held.HeldPlan.{HeldPlan}
use Rattle.core_plans.specs.declared.held.HeldPlan.TheVariants.{Read, Write}
use Rattle.core_plans.proofs.HeldWriteStages.{before_commit}
use Rattle.core_plans.proofs.StageLemmas.{ended_down, merge_refuses_none}
use Rattle.core_plans.proofs.StagesLeft.{IsGoing, going}
use Rattle.core_plans.proofs.WholeRuns.{OfWrite}

-- where there was no memory, nothing was written
abbrev IsShort : Bool → KeeperState → KeeperState → Option Reply → Type 0
IsShort tells first now refused =
    IfSome refused (λ reply. (position : ℕ) → reply ≡ replied.Refused (refusal.Memory position) → (position ≡ 0) × KeepsTables tells first now)

-- so it is of a write that did some of its stages; before its commit nothing is written
pub record ShortSoFar (tells : Bool) (first : KeeperState) (p : Writing) (now : World) : Type 0 where
  unwritten : p.refused ≡ None → p.committed ≡ None → KeepsTables tells first now.keepers
  short : IsShort tells first now.keepers p.refused

pub unrefused_by : (refused : Option Reply) (committed : Option Committed) (job : OtherEnd) (back : WayBack) → stage_from refused committed job back ≡ Commit
    → refused ≡ None
unrefused_by None committed job back is = refl
unrefused_by (Some reply) committed job back is = absurd (cc)

module _ (rules : Rules) (first : KeeperState) (p q : Writing) (old new : World) (so : ShortSoFar rules.tells first p old) where
  abbrev Now : Option Reply → Type 0
  Now = IsShort rules.tells first new.keepers

  abbrev Then : Type 0
  Then = ShortSoFar rules.tells first q new

  -- nothing refused it, and its commit was answered
  goes_on : (c : Committed) → q.refused ≡ None → q.committed ≡ Some c → Then
  goes_on c unrefused answered = record {
    unwritten = λ fine none. (let no : Some c ≡ None = sym answered ∙ none in absurd (cc));
    short = subst Now (sym unrefused) tt;
  }

  -- it was refused, for another cause than memory, or by its commit
  refused_so : (reply : Reply) → q.refused ≡ Some reply
      → ((position : ℕ) → reply ≡ replied.Refused (refusal.Memory position) → (position ≡ 0) × KeepsTables rules.tells first new.keepers) → Then
  refused_so reply is short = record {
    unwritten = λ fine none. (let no : Some reply ≡ None = sym is ∙ fine in absurd (cc));
    short = subst Now (sym is) short;
  }

  -- how a reply refuses it: where there was no memory, nothing was written
  abbrev Short : Refusal → Type 0
  Short why = (position : ℕ) → replied.Refused why ≡ replied.Refused (refusal.Memory position)
      → (position ≡ 0) × KeepsTables rules.tells first new.keepers

  unwritten_yet : next_of p ≡ Commit → KeepsTables rules.tells first old.keepers
  unwritten_yet at = so.unwritten (unrefused_by p.refused p.committed p.job p.back at) (before_commit p at)

  passing_short : next_of p ≡ Commit → (route : Route) (why : Refusal) → RefusesPassing rules.tells route why old new → Short why
  passing_short at route (refusal.Memory given) refuses position is =
      let same : given ≡ position = cc in
      (sym same ∙ refuses.0, subst (λ (x : World). KeepsTables rules.tells first x.keepers) (sym refuses.1) (unwritten_yet at))
  passing_short at route (refusal.Store refused) refuses position is = absurd (cc)
  passing_short at route why refuses position is = absurd refuses

  on_way_short : next_of p ≡ Commit → (passed : Option NodeName) (why : Refusal) → RefusesOnWay rules.tells passed p why old new → Short why
  on_way_short at None why refuses = absurd refuses
  on_way_short at (Some leader) why refuses = passing_short at (way_by leader p) why refuses

  there_short : next_of p ≡ Commit → (led : LedBy) (why : Refusal) → RefusesCommit rules.tells rules.settings (sent_by led p) why (come_past led old) new
      → Short why
  there_short at led (refusal.Memory given) refuses position is =
      let same : given ≡ position = cc in
      (sym same ∙ refuses.0, keeps_trans rules.tells first old.keepers new.keepers (unwritten_yet at) refuses.1.same.tables)
  there_short at led (refusal.Store refused) refuses position is = absurd (cc)
  there_short at led why refuses position is = absurd refuses

  commit_short : next_of p ≡ Commit → (leaders : Leaders) (why : Refusal) → RefusesWrite (led_by rules leaders) p why old new → Short why
  commit_short at leaders why (inl stops) = on_way_short at leaders.passed why stops
  commit_short at leaders why (inr refuses) = there_short at (led_by rules leaders) why refuses

  commits_on : (leaders : Option Leaders) → next_of p ≡ Commit → CommitsBy rules leaders p old q new → Then
  commits_on (Some leaders) at (inl commits) =
      goes_on commits.committed (ap (λ (x : Writing). x.refused) commits.then ∙ unrefused_by p.refused p.committed p.job p.back at)
      (ap (λ (x : Writing). x.committed) commits.then)
  commits_on (Some leaders) at (inr refuses) =
      refused_so (replied.Refused refuses.refusal) (ap (λ (x : Writing). x.refused) refuses.then) (commit_short at leaders refuses.refusal refuses.refuses)
  commits_on None at finds = refused_so _ (ap (λ (x : Writing). x.refused) finds.then) (λ position is. absurd (cc))

  module _ (g : IsGoing p) where
    merge_short : (sent : SentJob) (result : Result Wrote LeftOpen) (hops : ℕ) → MergesOver rules.tells rules.settings sent result old new
        → q ≡ after_stage p (came.Inverse result) hops → Then
    merge_short sent (Ok wrote) hops merges then =
        goes_on g.committed (ap (λ (x : Writing). x.refused) then ∙ g.unrefused) (ap (λ (x : Writing). x.committed) then ∙ g.answered)
    merge_short sent (Err (Scheduled why wrote)) hops merges then =
        goes_on g.committed (ap (λ (x : Writing). x.refused) then ∙ g.unrefused) (ap (λ (x : Writing). x.committed) then ∙ g.answered)
    merge_short sent (Err (Refused reply)) hops merges then =
        absurd (merge_refuses_none _ _ sent reply old new merges)

    end_short : (j : ShardJob) (result : Result ⊤ LeftOpen) (hops : ℕ) → EndsOver rules.tells rules.settings j result old new
        → q ≡ after_stage p (came.End result) hops → Then
    end_short j (Ok done) hops ends then =
        goes_on g.committed (ap (λ (x : Writing). x.refused) then ∙ g.unrefused) (ap (λ (x : Writing). x.committed) then ∙ g.answered)
    end_short j (Err (Scheduled why wrote)) hops ends then =
        goes_on g.committed (ap (λ (x : Writing). x.refused) then ∙ g.unrefused) (ap (λ (x : Writing). x.committed) then ∙ g.answered)
    end_short j (Err (Refused reply)) hops ends then = absurd ends

  stage_short : (at : WriteStage) → next_of p ≡ at → DoesWriteStage rules at p old q new → Then
  stage_short Commit at does = commits_on (leaders_of_write rules.settings old.states p) at does
  stage_short Inverse at merges =
      merge_short (going p Inverse (λ h. absurd (cc)) (λ h. absurd (cc)) at) (sent_job (job_sender p merges.committed) (job_by p merges.job)) merges.result _
      merges.merges merges.then
  stage_short End at ends =
      end_short (going p End (λ h. absurd (cc)) (λ h. absurd (cc)) at) (job_by p ends.job) ends.result 0 ends.ends ends.then
  stage_short Apply at (inl applies) =
      let g = going p Apply (λ h. absurd (cc)) (λ h. absurd (cc)) at in
      goes_on g.committed (ap (λ (x : Writing). x.refused) applies.then ∙ g.unrefused) (ap (λ (x : Writing). x.committed) applies.then ∙ g.answered)
  stage_short Apply at (inr loses) = refused_so _ (ap (λ (x : Writing). x.refused) loses.then) (λ position is. absurd (cc))
  stage_short Relay at (inl relays) =
      let g = going p Relay (λ h. absurd (cc)) (λ h. absurd (cc)) at in
      goes_on g.committed (ap (λ (x : Writing). x.refused) relays.then ∙ g.unrefused) (ap (λ (x : Writing). x.committed) relays.then ∙ g.answered)
  stage_short Relay at (inr loses) = refused_so _ (ap (λ (x : Writing). x.refused) loses.then) (λ position is. absurd (cc))
  stage_short Done at does = absurd does

  comes_short : ComesOfWrite rules p old q new → Then
  comes_short (inl does) = stage_short (next_of p) refl does.does
  comes_short (inr ends) = refused_so (write_is_down ends.node p) (ended_down p q old new ends).refused (λ position is. absurd (cc))

pub short_on : (rules : Rules) (first : KeeperState) (p q : Writing) (old new : World) → ShortSoFar rules.tells first p old
    → PassesStage rules (Write p) old (Write q) new → ShortSoFar rules.tells first q new
short_on rules first p q old new so stage = comes_short rules first p q old new so stage.steps

pub begun_short : (tells : Bool) (p : Writing) (now : World) → IsBegunWrite p → ShortSoFar tells now.keepers p now
begun_short tells p now is = record {
  unwritten = λ fine none told at. refl;
  short = subst (IsShort tells now.keepers now.keepers) (sym is.unrefused) tt;
}

-- its reply, once it is over
short_by : (tells : Bool) (first now : KeeperState) (refused : Option Reply) (committed : Option Committed) (job : OtherEnd) (hops position : ℕ)
    → IsShort tells first now refused → reply_by refused committed job hops ≡ Some (replied.Refused (refusal.Memory position))
    → (position ≡ 0) × KeepsTables tells first now
short_by tells first now (Some reply) committed job hops position short is =
    (let same : reply ≡ replied.Refused (refusal.Memory position) = cc in short position same)
short_by tells first now None None job hops position short is = absurd (cc)
short_by tells first now None (Some c) job hops position short is = absurd (cc)

pub short_over : (tells : Bool) (first : KeeperState) (q : HeldPlan) (now : World) (position : ℕ) → OfWrite (ShortSoFar tells first) q now
    → IsOver q (replied.Refused (refusal.Memory position)) → (position ≡ 0) × KeepsTables tells first now.keepers
short_over tells first (Write q) now position so over =
    short_by tells first now.keepers q.refused q.committed q.job q.hops position so.short over
short_over tells first (Read q) now position so over = absurd so
