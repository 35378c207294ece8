-- What a write took that did all of its stages.
use Rattle.std.proofs.Common.{◌≡◌, ℕ, ◌<◌, Option, Some, None, Ok, Err, refl, ap, sym, ◌∙◌, subst, inl, inr, arith}
use Rattle.std.specs.Prelude.{⊤, Result}
use Rattle.core_plans.specs.Held.{IsOver}
use Rattle.core_plans.specs.HeldWrites.{ComesOfWrite, CommitsBy, DoesWriteStage, job_by, job_sender, write_is_down}
use Rattle.core_plans.specs.LedBy.{Rules}
use Rattle.core_plans.specs.Needs.{leaders_of_write}
use Rattle.core_plans.specs.declared.leaders.Leaders.{Leaders}
use Rattle.core_plans.specs.WholeCalls.{PassesStage, write_stages_left}
use Rattle.core_plans.specs.WholeLaws.{IsBegunWrite, WholeWrite}
use Rattle.core_plans.specs.declared.held.HeldPlan.{HeldPlan}
use Rattle.core_plans.specs.declared.held.HeldPlan.TheVariants.{Read, Write}
use Rattle.core_plans.proofs.StageLemmas.{ended_down, merge_refuses_none}
use Rattle.core_plans.proofs.StagesLeft.{stage_closer}
use Rattle.core_plans.proofs.Taking.{CarriesFew, HasTaken, both_carried, lost_back, lost_there, none_between, none_carried, once_carried, takes_more}
use Rattle.core_plans.proofs.WholeWays.{OnItsWay, begun_way, its_way, way_on}
use Rattle.core_plans.proofs.WholeRuns.{OfWrite, write_keeps}
use Rattle.core_plans.proofs.WriteRefusals.{IsRefusedSo, answered_write, refused_so}
use Rattle.core_model.specs.Jobs.{ShardJob}
use Rattle.core_steps.specs.OtherEnds.{ChangesKeepers, EndsOver, GoesBetween, JobWay, LeavesJob, MayComeBack, MergesAlong, MergesBy, MergesOver, SentJob}
use Rattle.core_steps.specs.OtherEnds.{job_way, merging_leader, sent_job}
use Rattle.core_steps.specs.World.{World}
use Rattle.core_steps.specs.Relays.{link_past}
use Rattle.core_steps.specs.Routes.{hops_between}
use Rattle.hop_count.specs.Hops.{hops_after}
use Rattle.node_name.specs.declared.NodeName.{NodeName}
use Rattle.replies.specs.declared.calls.CallReply.TheVariants as called
use Rattle.replies.specs.declared.calls.ScheduledWhy.{ScheduledWhy}
use Rattle.replies.specs.declared.calls.ScheduledWhy.TheVariants.{LinkFault, KeeperFault, LogFull, NoServer, Memory}
use Rattle.replies.specs.declared.calls.WriteReply.{WriteReply}
use Rattle.replies.specs.declared.reply.Reply.{Reply}
use Rattle.replies.specs.declared.reply.Reply.TheVariants.{Called, Refused as Refused_}
use Rattle.shard_tables.specs.declared.writes.Wrote.{Wrote}
use Rattle.tao_link.specs.Shown.{LinkShown, after_carry}
use Rattle.write_plan.specs.Plans.{Writing, after_stage, next_of}
use Rattle.write_plan.specs.declared.results.LeftOpen.{LeftOpen}
use Rattle.write_plan.specs.declared.results.LeftOpen.TheVariants.{Refused, Scheduled}
use Rattle.write_plan.specs.declared.results.WriteResult.TheVariants as came
use Rattle.write_plan.specs.declared.stage.WriteStage.{WriteStage}
use Rattle.write_plan.specs.declared.stage.WriteStage.TheVariants.{Apply, Commit, Done, End, Inverse, Relay}
use Rattle.core_plans.proofs.ShortOfMemory.{ShortSoFar, begun_short, short_on, short_over}

-- ---- what its stages carried

-- its commit carried once, or twice where it passed a leader
commit_few : (passed : Option NodeName) (old new : LinkShown) → new ≡ after_carry (link_past passed old) → CarriesFew old new
commit_few None old new is = once_carried old new is
commit_few (Some leader) old new is = both_carried old new is

module _ (from to : NodeName) (old new : LinkShown) where
  between_few : GoesBetween from to old new → CarriesFew old new
  between_few (inl here) = none_carried old new here.1
  between_few (inr there) = both_carried old new there.1

  back_few : MayComeBack from to old new → CarriesFew old new
  back_few (inl went) = between_few went
  back_few (inr lost) = lost_back old new to from lost.1

module _ (rules : Rules) (old new : World) where
  abbrev FewHere : Type 0
  FewHere = CarriesFew old.link new.link

  left_few : (way : JobWay) (why : ScheduledWhy) (wrote : Option Wrote) → LeavesJob rules.tells rules.settings way (Scheduled why wrote) old new → FewHere
  left_few way LinkFault None is = lost_there old.link new.link _ _ is.1
  left_few way LinkFault (Some w) is = lost_back old.link new.link _ _ is.1
  left_few way KeeperFault None is = back_few _ _ old.link new.link is.2
  left_few way LogFull None is = back_few _ _ old.link new.link is.2
  left_few way Memory None is = back_few _ _ old.link new.link is.1
  left_few way NoServer wrote is = absurd is
  left_few way KeeperFault (Some w) is = absurd is
  left_few way LogFull (Some w) is = absurd is
  left_few way Memory (Some w) is = absurd is

  along_few : (way : JobWay) (result : Result Wrote LeftOpen) → MergesAlong rules.tells rules.settings way result old new → FewHere
  along_few way (Ok wrote) is = between_few _ _ old.link new.link is.1
  along_few way (Err (Scheduled why wrote)) is = left_few way why wrote is
  along_few way (Err (Refused reply)) is = absurd is

  merge_few : (sent : SentJob) (result : Result Wrote LeftOpen) → MergesOver rules.tells rules.settings sent result old new → FewHere
  merge_few sent result = by (merging_leader rules.settings old.states sent)
    where
      by : (merging : Option NodeName) → MergesBy rules.tells rules.settings merging sent result old new → FewHere
      by (Some leader) is = along_few (job_way sent leader) result is
      by None is = none_carried old.link new.link (ap (λ (x : World). x.link) is.1)

  abbrev SameLink : Type 0
  SameLink = new.link ≡ old.link

  keepers_same : ChangesKeepers old new → SameLink
  keepers_same is = ap (λ (x : World). x.link) is

  late_same : (j : ShardJob) (why : ScheduledWhy) (wrote : Option Wrote) → EndsOver rules.tells rules.settings j (Err (Scheduled why wrote)) old new → SameLink
  late_same j KeeperFault None is = keepers_same is.2
  late_same j Memory None is = keepers_same is.1
  late_same j KeeperFault (Some w) is = absurd is
  late_same j Memory (Some w) is = absurd is
  late_same j LinkFault wrote is = absurd is
  late_same j LogFull wrote is = absurd is
  late_same j NoServer wrote is = absurd is

  end_same : (j : ShardJob) (result : Result ⊤ LeftOpen) → EndsOver rules.tells rules.settings j result old new → SameLink
  end_same j (Ok done) is = keepers_same is.1
  end_same j (Err (Scheduled why wrote)) is = late_same j why wrote is
  end_same j (Err (Refused reply)) is = absurd is

-- ---- what it took

abbrev left_of : Writing → ℕ
left_of p = write_stages_left (next_of p)

-- a write's hops are the carries since the first
abbrev HasHops : LinkShown → Writing → LinkShown → Type 0
HasHops first p now = HasTaken first now p.hops (left_of p)

-- so they are unless it was refused
record TakesSoFar (first : LinkShown) (p : Writing) (now : World) : Type 0 where
  taken : p.refused ≡ None → HasHops first p now.link
  never : IsRefusedSo p.refused

module _ (rules : Rules) (first : LinkShown) (p q : Writing) (old new : World) (so : TakesSoFar first p old) (closer : left_of q < left_of p) where
  -- a stage that refused nothing added its carries
  adds : CarriesFew old.link new.link → q.hops ≡ hops_after p.hops (hops_between old.link new.link) → q.refused ≡ p.refused
      → q.refused ≡ None → HasHops first q new.link
  adds few hops same none =
      subst (λ n. HasTaken first new.link n (left_of q)) (sym hops)
      (takes_more first old.link new.link p.hops (left_of p) (left_of q) (so.taken (sym same ∙ none)) few closer)

  -- one that carried nothing
  rests : new.link ≡ old.link → q.hops ≡ hops_after p.hops 0 → q.refused ≡ p.refused → q.refused ≡ None → HasHops first q new.link
  rests link hops =
      adds (none_carried old.link new.link link) (hops ∙ ap (hops_after p.hops) (none_between old.link new.link link))

  -- one that refused it
  ends : (reply : Reply) → q.refused ≡ Some reply → q.refused ≡ None → HasHops first q new.link
  ends reply some none = (let no : Some reply ≡ None = sym some ∙ none in absurd (cc))

  merges_on : (sent : SentJob) (result : Result Wrote LeftOpen) → MergesOver rules.tells rules.settings sent result old new
      → q ≡ after_stage p (came.Inverse result) (hops_between old.link new.link) → q.refused ≡ None → HasHops first q new.link
  merges_on sent (Ok wrote) is then =
      adds (merge_few rules old new sent (Ok wrote) is) (ap (λ (r : Writing). r.hops) then) (ap (λ (r : Writing). r.refused) then)
  merges_on sent (Err (Scheduled why wrote)) is then =
      adds (merge_few rules old new sent (Err (Scheduled why wrote)) is) (ap (λ (r : Writing). r.hops) then) (ap (λ (r : Writing). r.refused) then)
  merges_on sent (Err (Refused reply)) is then = absurd (merge_refuses_none _ _ sent reply old new is)

  ends_on : (j : ShardJob) (result : Result ⊤ LeftOpen) → EndsOver rules.tells rules.settings j result old new → q ≡ after_stage p (came.End result) 0
      → q.refused ≡ None → HasHops first q new.link
  ends_on j (Ok done) is then =
      rests (end_same rules old new j (Ok done) is) (ap (λ (r : Writing). r.hops) then) (ap (λ (r : Writing). r.refused) then)
  ends_on j (Err (Scheduled why wrote)) is then =
      rests (end_same rules old new j (Err (Scheduled why wrote)) is) (ap (λ (r : Writing). r.hops) then) (ap (λ (r : Writing). r.refused) then)
  ends_on j (Err (Refused reply)) is then = absurd is

  commits_on : (leaders : Option Leaders) → CommitsBy rules leaders p old q new → q.refused ≡ None → HasHops first q new.link
  commits_on (Some leaders) (inl commits) =
      adds (commit_few leaders.passed old.link new.link commits.commits.link) (ap (λ (r : Writing). r.hops) commits.then)
      (ap (λ (r : Writing). r.refused) commits.then)
  commits_on (Some leaders) (inr refuses) = ends (Refused_ refuses.refusal) (ap (λ (r : Writing). r.refused) refuses.then)
  commits_on None finds = ends _ (ap (λ (r : Writing). r.refused) finds.then)

  takes : (at : WriteStage) → DoesWriteStage rules at p old q new → q.refused ≡ None → HasHops first q new.link
  takes Commit does = commits_on (leaders_of_write rules.settings old.states p) does
  takes Inverse merges = merges_on (sent_job (job_sender p merges.committed) (job_by p merges.job)) merges.result merges.merges merges.then
  takes End ended = ends_on (job_by p ended.job) ended.result ended.ends ended.then
  takes Apply (inl applies) =
      adds (once_carried old.link new.link applies.link) (ap (λ (r : Writing). r.hops) applies.then)
      (ap (λ (r : Writing). r.refused) applies.then)
  takes Apply (inr loses) = ends _ (ap (λ (r : Writing). r.refused) loses.then)
  takes Relay (inl relays) =
      adds (once_carried old.link new.link relays.link) (ap (λ (r : Writing). r.hops) relays.then)
      (ap (λ (r : Writing). r.refused) relays.then)
  takes Relay (inr loses) = ends _ (ap (λ (r : Writing). r.refused) loses.then)
  takes Done does = absurd does

  comes : ComesOfWrite rules p old q new → q.refused ≡ None → HasHops first q new.link
  comes (inl does) = takes (next_of p) does.does
  comes (inr down) = ends (write_is_down down.node p) (ended_down p q old new down).refused

takes_on : (rules : Rules) (first : LinkShown) (p q : Writing) (old new : World) → TakesSoFar first p old
    → PassesStage rules (Write p) old (Write q) new → TakesSoFar first q new
takes_on rules first p q old new so stage = record {
  taken = comes rules first p q old new so (stage_closer rules (Write p) (Write q) old new stage.steps) stage.steps;
  never = refused_so rules p q old new so.never stage.steps;
}

-- ---- what its reply says

abbrev hops_in : Reply → ℕ
hops_in (Called (called.Write reply)) = reply.hops
hops_in reply = 0

says_hops : (first : LinkShown) (q : HeldPlan) (now : World) (reply : WriteReply) → OfWrite (TakesSoFar first) q now
    → IsOver q (Called (called.Write reply)) → reply.hops ≡ hops_between first now.link
says_hops first (Write q) now reply so over =
    let by = answered_write q (called.Write reply) so.never over in
    ap hops_in by.reply_is ∙ (so.taken by.unrefused).hops_is
says_hops first (Read q) now reply so over = absurd so

begun_takes : (p : Writing) (now : World) → IsBegunWrite p → TakesSoFar now.link p now
begun_takes p now is =
    let link = now.link in
    let hops = is.hops in
    record {
      taken = λ none. record {
        rise = omega arith;
        hops_is = hops ∙ none_between link link refl;
        few = (let left = most_left (next_of p) in omega (arith, hops, left));
      };
      never = subst IsRefusedSo (sym is.unrefused) tt;
    }
  where
    most_left : (at : WriteStage) → write_stages_left at < 6
    most_left Commit = omega arith
    most_left Inverse = omega arith
    most_left End = omega arith
    most_left Relay = omega arith
    most_left Apply = omega arith
    most_left Done = omega arith

pub whole_writes : (rules : Rules) (p : Writing) (old : World) (q : HeldPlan) (new : World) → WholeWrite rules p old q new
whole_writes rules p old q new = record {
  cost = λ begun out reply over. says_hops old.link q new reply
      (write_keeps rules (TakesSoFar old.link) (takes_on rules old.link) out.stages p q old new (begun_takes p old begun) out.passes) over;
  way = λ begun ahead out reply over r is. its_way old.link q new reply
      (write_keeps rules (OnItsWay old.link) (way_on rules old.link) out.stages p q old new (begun_way p old begun ahead) out.passes)
      over out.over r is;
  memory = λ begun out position over. short_over rules.tells old.keepers q new position
      (write_keeps rules (ShortSoFar rules.tells old.keepers) (short_on rules old.keepers) out.stages p q old new (begun_short rules.tells p old begun)
      out.passes) over;
}
