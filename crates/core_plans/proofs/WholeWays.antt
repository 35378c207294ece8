-- The carries of a write that does all of its stages: those of its way there and back, and of the way to its other end.
use Rattle.std.proofs.Common.{◌≡◌, ◌∙◌, ℕ, ◌+◌, ◌≤◌, Option, Some, None, Ok, Err, refl, ap, sym, subst, inl, inr, arith}
use Rattle.std.specs.Prelude.{⊤, IsSome, Result, option_and_then, unwrap_or}
use Rattle.core_model.specs.Jobs.{ShardJob}
use Rattle.core_steps.specs.OtherEnds.{ChangesKeepers, EndsOver, GoesBetween, JobWay, LeavesJob, MayComeBack, MergesAlong, MergesBy, MergesOver, SentJob}
use Rattle.core_steps.specs.OtherEnds.{job_way, merging_leader, sent_job}
use Rattle.core_steps.specs.Relays.{link_past}
use Rattle.core_steps.specs.Routes.{FailsCarry, there_and_back}
use Rattle.core_steps.specs.World.{World}
use Rattle.node_name.specs.declared.NodeName.{NodeName}
use Rattle.replies.specs.declared.calls.CallReply.TheVariants as called
use Rattle.replies.specs.declared.calls.ScheduledWhy.{ScheduledWhy}
use Rattle.replies.specs.declared.calls.ScheduledWhy.TheVariants.{LinkFault, KeeperFault, LogFull, NoServer, Memory}
use Rattle.replies.specs.declared.calls.WriteReply.{WriteReply}
use Rattle.replies.specs.declared.reply.Reply.{Reply}
use Rattle.replies.specs.declared.reply.Reply.TheVariants.{Called, Refused as Refused_}
use Rattle.shard_tables.specs.declared.writes.Wrote.{Wrote}
use Rattle.tao_keeper.specs.declared.jobs.Job.{Job}
use Rattle.tao_link.specs.Shown.{LinkShown, after_carry}
use Rattle.write_plan.specs.Plans.{Writing, after_stage, answered_job, answered_passed, back_stage, job_stage, next_of, stage_from}
use Rattle.write_plan.specs.Stages.{stage_said}
use Rattle.write_plan.specs.declared.committed.Committed.{Committed}
use Rattle.write_plan.specs.declared.progress.OtherEnd.{OtherEnd}
use Rattle.write_plan.specs.declared.progress.OtherEnd.TheVariants.{Due, Merged, Ended, Open}
use Rattle.write_plan.specs.declared.progress.WayBack.{WayBack}
use Rattle.write_plan.specs.declared.progress.WayBack.TheVariants.{Ahead, Relayed, Applied}
use Rattle.write_plan.specs.declared.results.LeftOpen.{LeftOpen}
use Rattle.write_plan.specs.declared.results.LeftOpen.TheVariants.{Refused, Scheduled}
use Rattle.write_plan.specs.declared.results.WriteResult.TheVariants as came
use Rattle.write_plan.specs.declared.stage.WriteStage.{WriteStage}
use Rattle.write_plan.specs.declared.stage.WriteStage.TheVariants.{Apply, Commit, Done, End, Inverse, Relay}
use Rattle.core_plans.specs.Held.{IsOver, next_stage}
use Rattle.core_plans.specs.HeldWrites.{ComesOfWrite, CommitsBy, CommitsHeld, DoesWriteStage, job_by, job_sender, write_is_down}
use Rattle.core_plans.specs.LedBy.{Rules, led_by}
use Rattle.core_plans.specs.Needs.{leaders_of_write}
use Rattle.core_plans.specs.declared.leaders.Leaders.{Leaders}
use Rattle.core_plans.specs.WholeCalls.{PassesStage}
use Rattle.core_plans.specs.WholeLaws.{IsBegunWrite, TakesItsWay, carries_after, way_carries}
use Rattle.core_plans.specs.declared.held.HeldPlan.{HeldPlan}
use Rattle.core_plans.specs.declared.held.HeldPlan.TheVariants.{Write}
use Rattle.core_plans.proofs.HeldWriteStages.{at_inverse, before_commit, no_job}
use Rattle.core_plans.proofs.ShortOfMemory.{unrefused_by}
use Rattle.core_plans.proofs.StageLemmas.{ended_down, merge_refuses_none}
use Rattle.core_plans.proofs.StagesLeft.{IsGoing, going}
use Rattle.core_plans.proofs.WholeRuns.{OfWrite}
use Rattle.core_plans.proofs.WriteRefusals.{IsRefusedSo, answered_write, refused_so}

-- ---- carries

-- so many carries
abbrev Carried : ℕ → LinkShown → LinkShown → Type 0
Carried n old new = new.carries ≡ carries_after old.carries n

module _ (old new : LinkShown) where
  carried_none : new ≡ old → Carried 0 old new
  carried_none is = let same : new.carries ≡ old.carries = ap (λ (l : LinkShown). l.carries) is in omega (arith, same)

  carried_once : new ≡ after_carry old → Carried 1 old new
  carried_once is = let one : new.carries ≡ (after_carry old).carries = ap (λ (l : LinkShown). l.carries) is in omega (arith, one)

  carried_twice : new ≡ there_and_back old → Carried 2 old new
  carried_twice is = let two : new.carries ≡ (there_and_back old).carries = ap (λ (l : LinkShown). l.carries) is in omega (arith, two)

  -- one that failed was counted
  lost_there : (from to : NodeName) → FailsCarry from to old new → Carried 1 old new
  lost_there from to is = let one = is.counted in omega (arith, one)

  lost_back : (from to : NodeName) → FailsCarry from to (after_carry old) new → Carried 2 old new
  lost_back from to is = let two = is.counted in omega (arith, two)

-- one after another
carried_on : (a b c : LinkShown) (m n : ℕ) → Carried m a b → Carried n b c → Carried (m + n) a c
carried_on a b c m n one two = omega (arith, one, two)

-- two at most
record CarriesTwo (old new : LinkShown) : Type 0 where
  count : ℕ
  few : count ≤ 2
  carries : Carried count old new

module _ (from to : NodeName) (old new : LinkShown) where
  between_two : GoesBetween from to old new → CarriesTwo old new
  between_two (inl here) = record { count = 0; few = omega arith; carries = carried_none old new here.1 }
  between_two (inr there) = record { count = 2; few = omega arith; carries = carried_twice old new there.1 }

  back_two : MayComeBack from to old new → CarriesTwo old new
  back_two (inl went) = between_two went
  back_two (inr lost) = record { count = 2; few = omega arith; carries = lost_back old new to from lost.1 }

module _ (rules : Rules) (old new : World) where
  abbrev TwoHere : Type 0
  TwoHere = CarriesTwo old.link new.link

  left_two : (way : JobWay) (why : ScheduledWhy) (wrote : Option Wrote) → LeavesJob rules.tells rules.settings way (Scheduled why wrote) old new → TwoHere
  left_two way LinkFault None is = record { count = 1; few = omega arith; carries = lost_there old.link new.link _ _ is.1 }
  left_two way LinkFault (Some w) is = record { count = 2; few = omega arith; carries = lost_back old.link new.link _ _ is.1 }
  left_two way KeeperFault None is = back_two _ _ old.link new.link is.2
  left_two way LogFull None is = back_two _ _ old.link new.link is.2
  left_two way Memory None is = back_two _ _ old.link new.link is.1
  left_two way NoServer wrote is = absurd is
  left_two way KeeperFault (Some w) is = absurd is
  left_two way LogFull (Some w) is = absurd is
  left_two way Memory (Some w) is = absurd is

  along_two : (way : JobWay) (result : Result Wrote LeftOpen) → MergesAlong rules.tells rules.settings way result old new → TwoHere
  along_two way (Ok wrote) is = between_two _ _ old.link new.link is.1
  along_two way (Err (Scheduled why wrote)) is = left_two way why wrote is
  along_two way (Err (Refused reply)) is = absurd is

  merge_two : (sent : SentJob) (result : Result Wrote LeftOpen) → MergesOver rules.tells rules.settings sent result old new → TwoHere
  merge_two sent result = by (merging_leader rules.settings old.states sent)
    where
      by : (merging : Option NodeName) → MergesBy rules.tells rules.settings merging sent result old new → TwoHere
      by (Some leader) is = along_two (job_way sent leader) result is
      by None is = record { count = 0; few = omega arith; carries = carried_none old.link new.link (ap (λ (x : World). x.link) is.1) }

  keepers_none : ChangesKeepers old new → Carried 0 old.link new.link
  keepers_none is = carried_none old.link new.link (ap (λ (x : World). x.link) is)

  late_none : (j : ShardJob) (why : ScheduledWhy) (wrote : Option Wrote) → EndsOver rules.tells rules.settings j (Err (Scheduled why wrote)) old new
      → Carried 0 old.link new.link
  late_none j KeeperFault None is = keepers_none is.2
  late_none j Memory None is = keepers_none is.1
  late_none j KeeperFault (Some w) is = absurd is
  late_none j Memory (Some w) is = absurd is
  late_none j LinkFault wrote is = absurd is
  late_none j LogFull wrote is = absurd is
  late_none j NoServer wrote is = absurd is

  end_none : (j : ShardJob) (result : Result ⊤ LeftOpen) → EndsOver rules.tells rules.settings j result old new → Carried 0 old.link new.link
  end_none j (Ok done) is = keepers_none is.1
  end_none j (Err (Scheduled why wrote)) is = late_none j why wrote is
  end_none j (Err (Refused reply)) is = absurd is

-- ---- the way

-- what a commit carries
abbrev there_carries : Option NodeName → ℕ
there_carries None = 1
there_carries (Some leader) = 2

commit_carried : (passed : Option NodeName) (old new : LinkShown) → new ≡ after_carry (link_past passed old) → Carried (there_carries passed) old new
commit_carried None old new is = carried_once old new is
commit_carried (Some leader) old new is = carried_twice old new is

-- what is left of the way back
abbrev way_left : WayBack → Option NodeName → ℕ
way_left Ahead None = 1
way_left Ahead (Some leader) = 2
way_left Relayed passed = 1
way_left Applied passed = 0

-- so many carries of its way were made: none before its commit, and with those that are left they are all of them
abbrev WentSoFar : ℕ → Option Committed → WayBack → Type 0
WentSoFar done None back = done ≡ 0
WentSoFar done (Some c) back = done + way_left back c.passed ≡ way_carries c.passed

both_ways : (passed : Option NodeName) → there_carries passed + way_left Ahead passed ≡ way_carries passed
both_ways None = refl
both_ways (Some leader) = refl

-- where the leader that was passed is next, and where the follower is, and where nothing is
relay_by : (passed : Option NodeName) (back : WayBack) → back_stage passed back ≡ Relay → way_left back passed ≡ 2
relay_by None Ahead is = absurd (cc)
relay_by (Some leader) Ahead is = refl
relay_by None Relayed is = absurd (cc)
relay_by (Some leader) Relayed is = absurd (cc)
relay_by None Applied is = absurd (cc)
relay_by (Some leader) Applied is = absurd (cc)

apply_by : (passed : Option NodeName) (back : WayBack) → back_stage passed back ≡ Apply → way_left back passed ≡ 1
apply_by None Ahead is = refl
apply_by (Some leader) Ahead is = absurd (cc)
apply_by None Relayed is = refl
apply_by (Some leader) Relayed is = refl
apply_by None Applied is = absurd (cc)
apply_by (Some leader) Applied is = absurd (cc)

none_by : (passed : Option NodeName) (back : WayBack) → stage_said (back_stage passed back) ≡ None → way_left back passed ≡ 0
none_by None Ahead is = absurd (cc)
none_by (Some leader) Ahead is = absurd (cc)
none_by None Relayed is = absurd (cc)
none_by (Some leader) Relayed is = absurd (cc)
none_by None Applied is = refl
none_by (Some leader) Applied is = refl

relay_left : (owed : Option Job) (job : OtherEnd) (passed : Option NodeName) (back : WayBack)
    → unwrap_or (option_and_then (λ _. job_stage job) owed) (back_stage passed back) ≡ Relay → way_left back passed ≡ 2
relay_left None job passed back is = relay_by passed back is
relay_left (Some j) Due passed back is = absurd (cc)
relay_left (Some j) Merged passed back is = absurd (cc)
relay_left (Some j) Ended passed back is = relay_by passed back is
relay_left (Some j) (Open why) passed back is = relay_by passed back is

apply_left : (owed : Option Job) (job : OtherEnd) (passed : Option NodeName) (back : WayBack)
    → unwrap_or (option_and_then (λ _. job_stage job) owed) (back_stage passed back) ≡ Apply → way_left back passed ≡ 1
apply_left None job passed back is = apply_by passed back is
apply_left (Some j) Due passed back is = absurd (cc)
apply_left (Some j) Merged passed back is = absurd (cc)
apply_left (Some j) Ended passed back is = apply_by passed back is
apply_left (Some j) (Open why) passed back is = apply_by passed back is

none_left : (owed : Option Job) (job : OtherEnd) (passed : Option NodeName) (back : WayBack)
    → stage_said (unwrap_or (option_and_then (λ _. job_stage job) owed) (back_stage passed back)) ≡ None → way_left back passed ≡ 0
none_left None job passed back is = none_by passed back is
none_left (Some j) Due passed back is = absurd (cc)
none_left (Some j) Merged passed back is = absurd (cc)
none_left (Some j) Ended passed back is = none_by passed back is
none_left (Some j) (Open why) passed back is = none_by passed back is

-- ---- what its stages took

-- so many carries of its way were made, and so many for the other end
record SoFar (first now : LinkShown) (p : Writing) : Type 0 where
  done : ℕ
  more : ℕ
  carries : Carried (done + more) first now
  left : WentSoFar done p.committed p.back
  few : more ≤ 2
  due : p.job ≡ Due → more ≡ 0
  alone : answered_job p ≡ None → more ≡ 0
  ahead : p.committed ≡ None → p.back ≡ Ahead

-- so it is unless it was refused
pub record OnItsWay (first : LinkShown) (p : Writing) (now : World) : Type 0 where
  taken : p.refused ≡ None → SoFar first now.link p
  never : IsRefusedSo p.refused

module _ (rules : Rules) (first : LinkShown) (p q : Writing) (old new : World) (so : OnItsWay first p old) where
  abbrev Now : Writing → Type 0
  Now r = SoFar first new.link r

  commits_on : (leaders : Leaders) → next_of p ≡ Commit → CommitsHeld (led_by rules leaders) p old q new → Now q
  commits_on leaders at is =
      let none = before_commit p at in
      let was = so.taken (unrefused_by p.refused p.committed p.job p.back at) in
      let alone : was.more ≡ 0 = was.alone (ap (option_and_then (λ (c : Committed). c.wrote.job)) none) in
      let begun : was.done ≡ 0 = subst (λ c. WentSoFar was.done c p.back) none was.left in
      let there = carried_on first old.link new.link (was.done + was.more) (there_carries leaders.passed) was.carries
      (commit_carried leaders.passed old.link new.link is.commits.link) in
      let count : was.done + was.more + there_carries leaders.passed ≡ there_carries leaders.passed + 0 = omega (arith, begun, alone) in
      subst Now (sym is.then) (record {
        done = there_carries leaders.passed;
        more = 0;
        carries = subst (λ n. Carried n first new.link) count there;
        left = subst (λ back. there_carries leaders.passed + way_left back is.committed.passed ≡ way_carries is.committed.passed) (sym (was.ahead none))
            (subst (λ o. there_carries leaders.passed + way_left Ahead o ≡ way_carries o) (sym is.passed) (both_ways leaders.passed));
        few = omega arith;
        due = λ _. refl;
        alone = λ _. refl;
        ahead = λ gone. absurd (cc);
      })

  module _ (at : WriteStage) (is : next_of p ≡ at) (g : IsGoing p) where
    abbrev was : SoFar first old.link p
    was = so.taken g.unrefused

    -- the way back, and the stage that follows, by what the commit answered
    left_here : was.done + way_left p.back g.committed.passed ≡ way_carries g.committed.passed
    left_here = subst (λ c. WentSoFar was.done c p.back) g.answered was.left

    next_here : unwrap_or (option_and_then (λ _. job_stage p.job) g.committed.wrote.job) (back_stage g.committed.passed p.back) ≡ at
    next_here = subst (λ c. stage_from None c p.job p.back ≡ at) g.answered
        (subst (λ r. stage_from r p.committed p.job p.back ≡ at) g.unrefused is)

    -- the way to the other end: none was gone before
    other_end : (job : OtherEnd) (other : Option Wrote) (hops : ℕ) → p.job ≡ Due → IsSome (answered_job p) → (job ≡ Due → ⊥)
        → CarriesTwo old.link new.link → Now (record p { job = job; other = other; hops = hops })
    other_end job other hops due some not two =
        let zero : was.more ≡ 0 = was.due due in
        let count : was.done + was.more + two.count ≡ was.done + two.count = omega (arith, zero) in
        record {
          done = was.done;
          more = two.count;
          carries = subst (λ n. Carried n first new.link) count
              (carried_on first old.link new.link (was.done + was.more) two.count was.carries two.carries);
          left = was.left;
          few = two.few;
          due = λ same. absurd (not same);
          alone = λ none. absurd (no_job p some none);
          ahead = was.ahead;
        }

    -- a stage that carries nothing
    rests : (job : OtherEnd) (other : Option Wrote) (hops : ℕ) → (job ≡ Due → ⊥) → Carried 0 old.link new.link
        → Now (record p { job = job; other = other; hops = hops })
    rests job other hops not none =
        let count : was.done + was.more + 0 ≡ was.done + was.more = omega arith in
        record {
          done = was.done;
          more = was.more;
          carries = subst (λ n. Carried n first new.link) count (carried_on first old.link new.link (was.done + was.more) 0 was.carries none);
          left = was.left;
          few = was.few;
          due = λ same. absurd (not same);
          alone = was.alone;
          ahead = was.ahead;
        }

    -- one more carry of the way back
    comes_back : (back : WayBack) (r : Writing) → r.committed ≡ p.committed → r.job ≡ p.job → r.back ≡ back
        → way_left p.back g.committed.passed ≡ way_left back g.committed.passed + 1 → new.link ≡ after_carry old.link → Now r
    comes_back back r committed job back_is one link =
        let here = left_here in
        let left : was.done + 1 + way_left back g.committed.passed ≡ way_carries g.committed.passed = omega (arith, here, one) in
        let count : was.done + was.more + 1 ≡ was.done + 1 + was.more = omega arith in
        record {
          done = was.done + 1;
          more = was.more;
          carries = subst (λ n. Carried n first new.link) count
              (carried_on first old.link new.link (was.done + was.more) 1 was.carries (carried_once old.link new.link link));
          left = subst (λ c. WentSoFar (was.done + 1) c r.back) (sym (committed ∙ g.answered))
              (subst (λ b. was.done + 1 + way_left b g.committed.passed ≡ way_carries g.committed.passed) (sym back_is) left);
          few = was.few;
          due = λ same. was.due (sym job ∙ same);
          alone = λ none. was.alone (ap (option_and_then (λ (c : Committed). c.wrote.job)) (sym committed) ∙ none);
          ahead = λ none. (let no : Some g.committed ≡ None = sym (committed ∙ g.answered) ∙ none in absurd (cc));
        }

  merges_on : (at : next_of p ≡ Inverse) (sent : SentJob) (result : Result Wrote LeftOpen) (hops : ℕ)
      → MergesOver rules.tells rules.settings sent result old new → q ≡ after_stage p (came.Inverse result) hops → Now q
  merges_on at sent (Ok wrote) hops is then =
      let g = going p Inverse (λ h. absurd (cc)) (λ h. absurd (cc)) at in
      let due = at_inverse p at in
      subst Now (sym then) (other_end Inverse at g Merged _ _ due.1 due.0 (λ same. absurd (cc)) (merge_two rules old new sent (Ok wrote) is))
  merges_on at sent (Err (Scheduled why wrote)) hops is then =
      let g = going p Inverse (λ h. absurd (cc)) (λ h. absurd (cc)) at in
      let due = at_inverse p at in
      subst Now (sym then) (other_end Inverse at g (Open why) _ _ due.1 due.0 (λ same. absurd (cc))
      (merge_two rules old new sent (Err (Scheduled why wrote)) is))
  merges_on at sent (Err (Refused reply)) hops is then = absurd (merge_refuses_none _ _ sent reply old new is)

  ends_on : (at : next_of p ≡ End) (j : ShardJob) (result : Result ⊤ LeftOpen) → EndsOver rules.tells rules.settings j result old new
      → q ≡ after_stage p (came.End result) 0 → Now q
  ends_on at j (Ok done) is then =
      let g = going p End (λ h. absurd (cc)) (λ h. absurd (cc)) at in
      subst Now (sym then) (rests End at g Ended _ _ (λ same. absurd (cc)) (end_none rules old new j (Ok done) is))
  ends_on at j (Err (Scheduled why wrote)) is then =
      let g = going p End (λ h. absurd (cc)) (λ h. absurd (cc)) at in
      subst Now (sym then) (rests End at g (Open why) _ _ (λ same. absurd (cc)) (end_none rules old new j (Err (Scheduled why wrote)) is))
  ends_on at j (Err (Refused reply)) is then = absurd is

  refuses : (reply : Reply) → q.refused ≡ Some reply → q.refused ≡ None → Now q
  refuses reply some none = (let no : Some reply ≡ None = sym some ∙ none in absurd (cc))

  commits_so : (leaders : Option Leaders) → next_of p ≡ Commit → CommitsBy rules leaders p old q new → q.refused ≡ None → Now q
  commits_so (Some leaders) at (inl commits) none = commits_on leaders at commits
  commits_so (Some leaders) at (inr lost) none = refuses (Refused_ lost.refusal) (ap (λ (r : Writing). r.refused) lost.then) none
  commits_so None at finds none = refuses _ (ap (λ (r : Writing). r.refused) finds.then) none

  takes : (at : WriteStage) → next_of p ≡ at → DoesWriteStage rules at p old q new → q.refused ≡ None → Now q
  takes Commit at does none = commits_so (leaders_of_write rules.settings old.states p) at does none
  takes Inverse at merges none = merges_on at (sent_job (job_sender p merges.committed) (job_by p merges.job)) merges.result _ merges.merges merges.then
  takes End at ended none = ends_on at (job_by p ended.job) ended.result ended.ends ended.then
  takes Relay at (inl relays) none =
      let g = going p Relay (λ h. absurd (cc)) (λ h. absurd (cc)) at in
      comes_back Relay at g Relayed q (ap (λ (r : Writing). r.committed) relays.then) (ap (λ (r : Writing). r.job) relays.then)
      (ap (λ (r : Writing). r.back) relays.then)
      (relay_left g.committed.wrote.job p.job g.committed.passed p.back (next_here Relay at g)) relays.link
  takes Relay at (inr lost) none = refuses _ (ap (λ (r : Writing). r.refused) lost.then) none
  takes Apply at (inl applies) none =
      let g = going p Apply (λ h. absurd (cc)) (λ h. absurd (cc)) at in
      comes_back Apply at g Applied q (ap (λ (r : Writing). r.committed) applies.then) (ap (λ (r : Writing). r.job) applies.then)
      (ap (λ (r : Writing). r.back) applies.then)
      (apply_left g.committed.wrote.job p.job g.committed.passed p.back (next_here Apply at g)) applies.link
  takes Apply at (inr lost) none = refuses _ (ap (λ (r : Writing). r.refused) lost.then) none
  takes Done at does none = absurd does

  comes : ComesOfWrite rules p old q new → q.refused ≡ None → Now q
  comes (inl does) none = takes (next_of p) refl does.does none
  comes (inr down) none = refuses (write_is_down down.node p) (ended_down p q old new down).refused none

pub way_on : (rules : Rules) (first : LinkShown) (p q : Writing) (old new : World) → OnItsWay first p old → PassesStage rules (Write p) old (Write q) new
    → OnItsWay first q new
way_on rules first p q old new so stage = record {
  taken = comes rules first p q old new so stage.steps;
  never = refused_so rules p q old new so.never stage.steps;
}

pub begun_way : (p : Writing) (now : World) → IsBegunWrite p → p.back ≡ Ahead → OnItsWay now.link p now
begun_way p now is ahead = record {
  taken = λ none. record {
    done = 0;
    more = 0;
    carries = carried_none now.link now.link refl;
    left = subst (λ c. WentSoFar 0 c p.back) (sym is.uncommitted) refl;
    few = omega arith;
    due = λ _. refl;
    alone = λ _. refl;
    ahead = λ _. ahead;
  };
  never = subst IsRefusedSo (sym is.unrefused) tt;
}

-- ---- once it is over

pub its_way : (first : LinkShown) (q : HeldPlan) (now : World) (reply : WriteReply) → OfWrite (OnItsWay first) q now
    → IsOver q (Called (called.Write reply)) → next_stage q ≡ None → (r : Writing) → q ≡ Write r
    → TakesItsWay (answered_passed r) (answered_job r) first now.link
its_way first q now reply so over none r is =
    by (subst (λ x. OfWrite (OnItsWay first) x now) is so) (subst (λ x. IsOver x (Called (called.Write reply))) is over)
    (subst (λ x. next_stage x ≡ None) is none)
  where
    by : OnItsWay first r now → IsOver (Write r) (Called (called.Write reply)) → next_stage (Write r) ≡ None
        → TakesItsWay (answered_passed r) (answered_job r) first now.link
    by way ended last =
        let answer = answered_write r (called.Write reply) way.never ended in
        let took = way.taken answer.unrefused in
        let passed = answer.committed.passed in
        let left : stage_said (stage_from None (Some answer.committed) r.job r.back) ≡ None =
        subst (λ o. stage_said (stage_from None o r.job r.back) ≡ None) answer.answered
        (subst (λ refused. stage_said (stage_from refused r.committed r.job r.back) ≡ None) answer.unrefused last) in
        let nothing = none_left answer.committed.wrote.job r.job passed r.back left in
        let all : took.done + way_left r.back passed ≡ way_carries passed = subst (λ c. WentSoFar took.done c r.back) answer.answered took.left in
        let count : took.done + took.more ≡ way_carries passed + took.more = omega (arith, all, nothing) in
        subst (λ c. TakesItsWay (option_and_then (λ (a : Committed). a.passed) c) (answered_job r) first now.link) (sym answer.answered) (record {
          more = took.more;
          few = took.few;
          alone = took.alone;
          carries = subst (λ n. Carried n first now.link) count took.carries;
        })
