-- Each stage leaves fewer before the end of its plan.
use Rattle.std.proofs.Common.{◌≡◌, ◌∙◌, ℕ, ◌<◌, Bool, true, false, Option, Some, None, Ok, Err, refl, ap, sym, subst, inl, inr, arith}
use Rattle.cache_items.specs.declared.look.Look.{Look}
use Rattle.cache_items.specs.declared.look.Look.TheVariants.{Hit, Miss}
use Rattle.core_plans.specs.Held.{StepsHeld}
use Rattle.core_plans.specs.HeldReads.{ComesOfRead, DoesKeep, DoesLook, DoesReadStage, read_is_down}
use Rattle.core_plans.specs.HeldWrites.{ComesOfWrite, CommitsBy, DoesWriteStage, with_notes}
use Rattle.core_plans.specs.LedBy.{Rules}
use Rattle.core_plans.specs.Needs.{leaders_of_write}
use Rattle.core_plans.specs.declared.leaders.Leaders.{Leaders}
use Rattle.core_plans.proofs.StageLemmas.{ended_down, ended_read, needs_some, read_needs_some}
use Rattle.core_plans.specs.WholeCalls.{read_stages_left, stages_left, write_stages_left}
use Rattle.core_plans.specs.declared.held.HeldPlan.{HeldPlan}
use Rattle.core_plans.specs.declared.held.HeldPlan.TheVariants.{Read, Write}
use Rattle.core_steps.specs.World.{World}
use Rattle.node_name.specs.declared.NodeName.{NodeName}
use Rattle.read_plan.specs.Readings.{Reading}
use Rattle.read_plan.specs.Standings.{after_ask, after_keep, after_look, after_master, stage_named, stage_of}
use Rattle.read_plan.specs.declared.stages.ReadStage.{ReadStage}
use Rattle.read_plan.specs.declared.stages.ReadStage.TheVariants as reads
use Rattle.read_plan.specs.declared.standing.Given.{Given}
use Rattle.read_plan.specs.declared.standing.Given.TheVariants.{Fill, HandedOut, Past}
use Rattle.read_plan.specs.declared.standing.Standing.{Standing}
use Rattle.read_plan.specs.declared.standing.Standing.TheVariants.{Looking, Asking, Mastering, Keeping, Ended}
use Rattle.replies.specs.declared.reply.Reply.{Reply}
use Rattle.replies.specs.declared.reply.Reply.TheVariants.{Refused as Refused_}
use Rattle.shard_tables.specs.declared.leader_answer.LeaderAnswer.{LeaderAnswer}
use Rattle.shard_tables.specs.declared.leader_answer.LeaderAnswer.TheVariants as leader
use Rattle.shard_tables.specs.declared.read_out.ReadOut.{ReadOut}
use Rattle.shard_tables.specs.declared.read_out.ReadOut.TheVariants as store
use Rattle.shard_tables.specs.declared.writes.Wrote.{Wrote}
use Rattle.tao_keeper.specs.declared.jobs.Job.{Job}
use Rattle.topology.specs.Config.{Settings}
use Rattle.write_plan.specs.Plans.{Writing, after_stage, back_stage, job_stage, next_of, stage_from}
use Rattle.write_plan.specs.Stages.{stage_said}
use Rattle.write_plan.specs.declared.committed.Committed.{Committed}
use Rattle.write_plan.specs.declared.progress.OtherEnd.{OtherEnd}
use Rattle.write_plan.specs.declared.progress.OtherEnd.TheVariants as job
use Rattle.write_plan.specs.declared.progress.WayBack.{WayBack}
use Rattle.write_plan.specs.declared.progress.WayBack.TheVariants.{Ahead, Applied, Relayed}
use Rattle.write_plan.specs.declared.results.CommitAnswer.{CommitAnswer}
use Rattle.write_plan.specs.declared.results.LeftOpen.{LeftOpen}
use Rattle.write_plan.specs.declared.results.LeftOpen.TheVariants.{Refused, Scheduled}
use Rattle.write_plan.specs.declared.results.WriteResult.TheVariants as came
use Rattle.replies.specs.declared.calls.ScheduledWhy.{ScheduledWhy}
use Rattle.write_plan.specs.declared.stage.WriteStage.{WriteStage}
use Rattle.write_plan.specs.declared.stage.WriteStage.TheVariants.{Apply, Commit, Done, End, Inverse, Relay}
use Rattle.std.specs.Prelude.{⊤, IsSome, Result, option_and_then, unwrap_or}

-- ---- reads

look_left : (critical : Bool) (look : Look) → read_stages_left (stage_of (after_look critical look)) < 4
look_left true look = omega arith
look_left false (Hit answer version) = omega arith
look_left false Miss = omega arith

ask_left : (given : LeaderAnswer) → read_stages_left (stage_of (after_ask given)) < 3
ask_left (leader.Filled fill) = omega arith
ask_left (leader.Past answer version total note) = omega arith
ask_left (leader.Behind version) = omega arith

master_left : (out : ReadOut) → read_stages_left (stage_of (after_master out)) < 2
master_left (store.Filled fill) = omega arith
master_left (store.Past answer version total note) = omega arith

abbrev Below : ℕ → Reading → Type 0
Below n r = read_stages_left (stage_of r.at) < n

look_closer : (s : Settings) (critical : Bool) (p q : Reading) (old new : World) → DoesLook s critical p old q new → Below 4 q
look_closer s false p q old new (inl looks) = subst (Below 4) (sym looks.then) (look_left p.critical looks.look)
look_closer s false p q old new (inr vain) = subst (Below 4) (sym vain.then) (omega arith)
look_closer s true p q old new looks = subst (Below 4) (sym looks.then) (look_left p.critical Miss)

keep_closer : (s : Settings) (p q : Reading) (given : Given) (old new : World) → p.at ≡ Keeping given → DoesKeep s p given old q new → Below 1 q
keep_closer s p q (Fill fill) old new at (inl from) =
    subst (Below 1) (sym from.then)
    (subst (λ a. read_stages_left (stage_of (after_keep p.bound a (Some (from.answer, from.kept)))) < 1) (sym at) (omega arith))
keep_closer s p q (Fill fill) old new at (inr vain) = subst (Below 1) (sym vain.then) (omega arith)
keep_closer s p q (Past answer version total seen) old new at on =
    subst (Below 1) (sym on.then) (subst (λ a. read_stages_left (stage_of (after_keep p.bound a None)) < 1) (sym at) (omega arith))
keep_closer s p q (HandedOut version) old new at on = absurd on

read_closer : (rules : Rules) (at : Standing) (p q : Reading) (old new : World) → p.at ≡ at → DoesReadStage rules at p old q new
    → Below (read_stages_left (stage_of at)) q
read_closer rules Looking p q old new at does = look_closer rules.settings p.critical p q old new does
read_closer rules Asking p q old new at (inl asks) = subst (Below 3) (sym asks.then) (ask_left asks.given)
read_closer rules Asking p q old new at (inr vain) = subst (Below 3) (sym vain.then) (omega arith)
read_closer rules Mastering p q old new at (inl asks) = subst (Below 2) (sym asks.then) (master_left asks.out)
read_closer rules Mastering p q old new at (inr vain) = subst (Below 2) (sym vain.then) (omega arith)
read_closer rules (Keeping given) p q old new at does = keep_closer rules.settings p q given old new at does
read_closer rules (Ended end) p q old new at does = absurd does

some_read_left : (at : ReadStage) → IsSome (stage_named at) → 0 < read_stages_left at
some_read_left reads.Look some = omega arith
some_read_left reads.Ask some = omega arith
some_read_left reads.Master some = omega arith
some_read_left reads.Keep some = omega arith
some_read_left reads.Done some = absurd (cc)

read_comes_closer : (rules : Rules) (p q : Reading) (old new : World) → ComesOfRead rules p old q new → Below (read_stages_left (stage_of p.at)) q
read_comes_closer rules p q old new (inl does) = read_closer rules p.at p q old new refl does.does
read_comes_closer rules p q old new (inr ends) =
    let at = stage_of p.at in
    subst (Below (read_stages_left at)) (sym ends.over.then) (subst (λ a. read_stages_left (stage_of a) < read_stages_left at)
    (sym (ended_read at (read_is_down ends.node) p 0 false)) (some_read_left at (read_needs_some old.states at p ends.node ends.down)))

-- ---- writes

some_left : (at : WriteStage) → IsSome (stage_said at) → 0 < write_stages_left at
some_left Commit some = omega arith
some_left Inverse some = omega arith
some_left End some = omega arith
some_left Relay some = omega arith
some_left Apply some = omega arith
some_left Done some = absurd (cc)

-- the stage that follows a commit, by the job that it answered and the leader that it passed
abbrev following : Option Job → OtherEnd → Option NodeName → WayBack → WriteStage
following owed state passed back = unwrap_or (option_and_then (λ _. job_stage state) owed) (back_stage passed back)

back_left : (passed : Option NodeName) (back : WayBack) → write_stages_left (back_stage passed back) < 3
back_left None Ahead = omega arith
back_left None Relayed = omega arith
back_left None Applied = omega arith
back_left (Some leader) Ahead = omega arith
back_left (Some leader) Relayed = omega arith
back_left (Some leader) Applied = omega arith

following_left : (owed : Option Job) (state : OtherEnd) (passed : Option NodeName) (back : WayBack) → write_stages_left (following owed state passed back) < 5
following_left None state passed back = let less = back_left passed back in omega (arith, less)
following_left (Some owed) job.Due passed back = omega arith
following_left (Some owed) job.Merged passed back = omega arith
following_left (Some owed) job.Ended passed back = let less = back_left passed back in omega (arith, less)
following_left (Some owed) (job.Open why) passed back = let less = back_left passed back in omega (arith, less)

merged_left : (owed : Option Job) (passed : Option NodeName) (back : WayBack) → write_stages_left (following owed job.Merged passed back) < 4
merged_left None passed back = let less = back_left passed back in omega (arith, less)
merged_left (Some owed) passed back = omega arith

ended_left : (owed : Option Job) (passed : Option NodeName) (back : WayBack) → write_stages_left (following owed job.Ended passed back) < 3
ended_left None passed back = back_left passed back
ended_left (Some owed) passed back = back_left passed back

open_left : (owed : Option Job) (passed : Option NodeName) (back : WayBack) (why : ScheduledWhy)
    → write_stages_left (following owed (job.Open why) passed back) < 3
open_left None passed back why = back_left passed back
open_left (Some owed) passed back why = back_left passed back

applied_left : (owed : Option Job) (state : OtherEnd) (passed : Option NodeName) (back : WayBack) → following owed state passed back ≡ Apply
    → write_stages_left (following owed state passed Applied) < 1
applied_left None state None back is = omega arith
applied_left None state (Some leader) back is = omega arith
applied_left (Some owed) job.Due passed back is = absurd (cc)
applied_left (Some owed) job.Merged passed back is = absurd (cc)
applied_left (Some owed) job.Ended None back is = omega arith
applied_left (Some owed) job.Ended (Some leader) back is = omega arith
applied_left (Some owed) (job.Open why) None back is = omega arith
applied_left (Some owed) (job.Open why) (Some leader) back is = omega arith

relayed_left : (owed : Option Job) (state : OtherEnd) (passed : Option NodeName) (back : WayBack) → following owed state passed back ≡ Relay
    → write_stages_left (following owed state passed Relayed) < 2
relayed_left None state None back is = omega arith
relayed_left None state (Some leader) back is = omega arith
relayed_left (Some owed) job.Due passed back is = absurd (cc)
relayed_left (Some owed) job.Merged passed back is = absurd (cc)
relayed_left (Some owed) job.Ended None back is = omega arith
relayed_left (Some owed) job.Ended (Some leader) back is = omega arith
relayed_left (Some owed) (job.Open why) None back is = omega arith
relayed_left (Some owed) (job.Open why) (Some leader) back is = omega arith

-- a write whose commit was answered, and that nothing refused
pub record IsGoing (p : Writing) : Type 0 where
  pub committed : Committed
  pub answered : p.committed ≡ Some committed
  pub unrefused : p.refused ≡ None

module _ (p : Writing) (at : WriteStage) (later : at ≡ Commit → ⊥) (left : at ≡ Done → ⊥) (is : next_of p ≡ at) where
  going_by : (refused : Option Reply) (committed : Option Committed) → p.refused ≡ refused → p.committed ≡ committed
      → stage_from refused committed p.job p.back ≡ at → IsGoing p
  going_by (Some reply) committed r c next = absurd (left (sym next))
  going_by None None r c next = absurd (later (sym next))
  going_by None (Some c) r answered next = record { committed = c; answered = answered; unrefused = r }

  pub going : IsGoing p
  going = going_by p.refused p.committed refl refl is

-- the stage that follows, where the commit was answered
going_next : (p : Writing) (g : IsGoing p) (state : OtherEnd) (back : WayBack)
    → stage_from p.refused p.committed state back ≡ following g.committed.wrote.job state g.committed.passed back
going_next p g state back =
    ap (λ r. stage_from r p.committed state back) g.unrefused ∙ ap (λ c. stage_from None c state back) g.answered

abbrev left_of : Writing → ℕ
left_of p = write_stages_left (next_of p)

module _ (p q : Writing) (hops : ℕ) where
  next_left : (g : IsGoing p) (state : OtherEnd) (back : WayBack) (n : ℕ)
      → write_stages_left (following g.committed.wrote.job state g.committed.passed back) < n
      → write_stages_left (stage_from p.refused p.committed state back) < n
  next_left g state back n less = subst (λ next. write_stages_left next < n) (sym (going_next p g state back)) less

  inverse_left : (result : Result Wrote LeftOpen) → IsGoing p → q ≡ after_stage p (came.Inverse result) hops → left_of q < 4
  inverse_left (Ok wrote) g then =
      subst (λ r. left_of r < 4) (sym then) (next_left g job.Merged p.back 4 (merged_left g.committed.wrote.job g.committed.passed p.back))
  inverse_left (Err (Scheduled why wrote)) g then =
      let less = open_left g.committed.wrote.job g.committed.passed p.back why in
      subst (λ r. left_of r < 4) (sym then) (next_left g (job.Open why) p.back 4 (omega (arith, less)))
  inverse_left (Err (Refused reply)) g then = subst (λ r. left_of r < 4) (sym then) (omega arith)

  end_left : (result : Result ⊤ LeftOpen) → IsGoing p → q ≡ after_stage p (came.End result) hops → left_of q < 3
  end_left (Ok done) g then =
      subst (λ r. left_of r < 3) (sym then) (next_left g job.Ended p.back 3 (ended_left g.committed.wrote.job g.committed.passed p.back))
  end_left (Err (Scheduled why wrote)) g then =
      subst (λ r. left_of r < 3) (sym then) (next_left g (job.Open why) p.back 3 (open_left g.committed.wrote.job g.committed.passed p.back why))
  end_left (Err (Refused reply)) g then = subst (λ r. left_of r < 3) (sym then) (omega arith)

  apply_left : IsGoing p → next_of p ≡ Apply → q ≡ after_stage p (came.Apply (Ok tt)) hops → left_of q < 1
  apply_left g is then =
      subst (λ r. left_of r < 1) (sym then)
      (next_left g p.job Applied 1 (applied_left g.committed.wrote.job p.job g.committed.passed p.back (sym (going_next p g p.job p.back) ∙ is)))

  relay_left : IsGoing p → next_of p ≡ Relay → q ≡ after_stage p (came.Relay (Ok tt)) hops → left_of q < 2
  relay_left g is then =
      subst (λ r. left_of r < 2) (sym then)
      (next_left g p.job Relayed 2 (relayed_left g.committed.wrote.job p.job g.committed.passed p.back (sym (going_next p g p.job p.back) ∙ is)))

  refused_left : (reply : Reply) (n : ℕ) → q.refused ≡ Some reply → 0 < n → left_of q < n
  refused_left reply n refused less =
      subst (λ r. write_stages_left (stage_from r q.committed q.job q.back) < n) (sym refused) less

  commit_left : (answer : CommitAnswer) → next_of p ≡ Commit → q ≡ after_stage p (came.Commit (Ok answer)) hops → left_of q < 5
  commit_left answer is then =
      subst (λ r. left_of r < 5) (sym then) (by p.refused is)
    where
      by : (refused : Option Reply) → stage_from refused p.committed p.job p.back ≡ Commit
          → write_stages_left (stage_from refused (Some answer.committed) p.job p.back) < 5
      by None next = following_left answer.committed.wrote.job p.job answer.committed.passed p.back
      by (Some reply) next = absurd (cc)

module _ (rules : Rules) (p q : Writing) (old new : World) where
  commit_closer : (leaders : Option Leaders) → next_of p ≡ Commit → CommitsBy rules leaders p old q new → left_of q < 5
  commit_closer (Some leaders) is (inl commits) = commit_left p q _ (with_notes commits.committed) is commits.then
  commit_closer (Some leaders) is (inr refuses) =
      refused_left p q 0 (Refused_ refuses.refusal) 5 (ap (λ (x : Writing). x.refused) refuses.then) (omega arith)
  commit_closer None is finds = refused_left p q 0 _ 5 (ap (λ (x : Writing). x.refused) finds.then) (omega arith)

  write_closer : (at : WriteStage) → next_of p ≡ at → DoesWriteStage rules at p old q new → left_of q < write_stages_left at
  write_closer Commit is does = commit_closer (leaders_of_write rules.settings old.states p) is does
  write_closer Inverse is merges =
      inverse_left p q _ merges.result (going p Inverse (λ h. absurd (cc)) (λ h. absurd (cc)) is) merges.then
  write_closer End is ends = end_left p q 0 ends.result (going p End (λ h. absurd (cc)) (λ h. absurd (cc)) is) ends.then
  write_closer Apply is (inl applies) = apply_left p q _ (going p Apply (λ h. absurd (cc)) (λ h. absurd (cc)) is) is applies.then
  write_closer Apply is (inr loses) = refused_left p q 0 _ 1 (ap (λ (x : Writing). x.refused) loses.then) (omega arith)
  write_closer Relay is (inl relays) = relay_left p q _ (going p Relay (λ h. absurd (cc)) (λ h. absurd (cc)) is) is relays.then
  write_closer Relay is (inr loses) = refused_left p q 0 _ 2 (ap (λ (x : Writing). x.refused) loses.then) (omega arith)
  write_closer Done is does = absurd does

  write_comes_closer : ComesOfWrite rules p old q new → left_of q < left_of p
  write_comes_closer (inl does) = write_closer (next_of p) refl does.does
  write_comes_closer (inr ends) = refused_left p q 0 _ (left_of p) (ended_down p q old new ends).refused
      (some_left (next_of p) (needs_some old.states (next_of p) p ends.node ends.down))

-- ---- plans

pub stage_closer : (rules : Rules) (p q : HeldPlan) (old new : World) → StepsHeld rules p old q new → stages_left q < stages_left p
stage_closer rules (Read p) (Read q) old new steps = read_comes_closer rules p q old new steps.steps.does
stage_closer rules (Write p) (Write q) old new steps = write_comes_closer rules p q old new steps
stage_closer rules (Read p) (Write q) old new steps = absurd steps
stage_closer rules (Write p) (Read q) old new steps = absurd steps
